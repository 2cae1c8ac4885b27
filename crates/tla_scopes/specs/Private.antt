-- What serves the code: no public contract cites these.
pub mod Parameters
pub mod LocalScopes
pub mod Index
pub mod IndexProps
