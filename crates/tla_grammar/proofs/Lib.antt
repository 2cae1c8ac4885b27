pub mod Balanced
pub mod Factors
pub mod Fails
pub mod Inversion
pub mod Roles
pub mod Strings
pub mod TupleEnds
pub mod Updates
