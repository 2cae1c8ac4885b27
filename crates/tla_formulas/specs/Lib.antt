pub mod Formulas
pub mod Refused
