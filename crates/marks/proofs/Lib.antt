mod Answers
pub mod Rows
