mod Lines
mod Joins
pub mod ReportTells
mod Examples
