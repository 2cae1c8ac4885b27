-- What serves the code: no public contract cites these.
pub mod GivesRecords
pub mod Nests
