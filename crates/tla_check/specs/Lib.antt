pub mod CarriesOver
pub mod Checks
pub mod Laws
