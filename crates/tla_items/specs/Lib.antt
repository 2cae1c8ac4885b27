pub mod Items
pub mod References
pub mod Open
pub mod Cycles
pub mod Refusal
pub mod Private
