-- Definitions for the code: no public contract cites them.
pub mod Listed
