pub mod Names
pub mod Codes
pub mod Status
pub mod Report
pub mod Laws
pub mod Private
