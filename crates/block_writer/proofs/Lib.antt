pub mod Waits
pub mod Contents
