-- What serves the code: no public contract cites these.
pub mod GapSize
pub mod LexemeSize
pub mod FrontSize
pub mod RegionSize
