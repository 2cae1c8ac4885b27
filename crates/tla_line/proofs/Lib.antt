pub mod EntryLemmas
pub mod ChainLemmas
pub mod LineLemmas
