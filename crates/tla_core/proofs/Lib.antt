pub mod Loops
pub mod Parts
pub mod FixedTrees
pub mod KnownParts
pub mod SameTrees
pub mod Next
