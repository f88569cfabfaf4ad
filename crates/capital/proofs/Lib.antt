pub mod CommandWords
pub mod Files
pub mod Sheets
pub mod Turns
