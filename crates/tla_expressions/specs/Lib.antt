pub mod ReadingLists
pub mod ReadingBrackets
pub mod Reading
pub mod Gives
pub mod Private
