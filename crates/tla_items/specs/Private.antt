-- What serves the code: no public contract cites these.
pub mod Reached
pub mod Settled
pub mod Firsts
