-- What serves the code: no public contract cites these.
pub mod Latest
pub mod LatestProps
pub mod Tabled
