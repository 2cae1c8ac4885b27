pub mod Members
pub mod Numbers
pub mod Known
pub mod Made
pub mod Numbered
pub mod Arguments
pub mod Different
