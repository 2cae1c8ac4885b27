pub mod SameMeaning
pub mod Groups
pub mod Private
