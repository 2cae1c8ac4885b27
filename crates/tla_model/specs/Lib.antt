pub mod Size
pub mod ModelTree
pub mod WellFormed
pub mod IsSound
pub mod ModelOf
pub mod Models
