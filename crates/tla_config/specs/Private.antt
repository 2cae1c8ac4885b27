-- What serves the code: no public contract cites these.
pub mod Keywords
pub mod Beyond
pub mod LiteralEnds
pub mod Fronts
pub mod Gives
pub mod GivesValues
