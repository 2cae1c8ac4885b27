mod Found
mod Tried
mod Used
mod Forms
mod Grouped
pub mod Numbers
mod FieldNames
pub mod KeptParts
