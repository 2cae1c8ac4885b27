pub mod Units
pub mod Parsing
pub mod Private
