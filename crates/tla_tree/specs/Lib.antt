pub mod Places
pub mod Tree
pub mod Units
pub mod UnitsView
pub mod View
pub mod Words
