pub mod Covers
pub mod Names
pub mod Fits
pub mod Laws
pub mod Private
