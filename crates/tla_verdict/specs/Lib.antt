pub mod Answers
pub mod IsNamed
