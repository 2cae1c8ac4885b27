-- What serves the code: no public contract cites these.
pub mod Binders
pub mod Gives
pub mod Walks
pub mod Linked
