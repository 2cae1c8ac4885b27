pub mod Outside
pub mod Private
