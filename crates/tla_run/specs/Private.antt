-- Definitions that only private contracts cite.
pub mod Growing
pub mod Reading
