pub mod Reported
pub mod Named
pub mod Stopped
pub mod NamesIn
pub mod ReportsKept
pub mod Once
pub mod Alike
