-- Definitions for the code: no public contract cites them.
pub mod Held
pub mod HeldText
pub mod Falls
pub mod Inner
