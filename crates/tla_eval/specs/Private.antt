-- Definitions for the code: no public contract cites them.
pub mod Chosen
pub mod Environment
pub mod Parts
pub mod Wheels
