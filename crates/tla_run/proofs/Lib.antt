pub mod InputLemmas
pub mod RunLemmas
