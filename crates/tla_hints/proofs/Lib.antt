pub mod Behind
pub mod Feeds
