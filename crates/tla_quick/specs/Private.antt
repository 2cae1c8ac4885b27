-- Definitions for quick evaluation: no public contract cites them.
pub mod Lasting
pub mod Kept
pub mod Grouped
pub mod Frames
pub mod Environment
pub mod Answers
pub mod Names
