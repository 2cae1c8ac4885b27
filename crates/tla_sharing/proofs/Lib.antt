pub mod Loops
pub mod Raised
pub mod Copied
pub mod Lengthened
pub mod Literals
