pub mod UnitsComplete
pub mod UnitsSound
pub mod UnitsSteps
pub mod Whole
mod NoWords
