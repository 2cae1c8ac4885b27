pub mod Gives
pub mod Evaluated
pub mod Gathered
