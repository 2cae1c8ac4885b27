pub mod Names
pub mod Literals
pub mod Statements
pub mod Configuration
pub mod View
pub mod Refusals
pub mod Beyond
pub mod Private
