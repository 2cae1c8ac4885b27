pub mod Waiting
pub mod Blocks
pub mod Sends
