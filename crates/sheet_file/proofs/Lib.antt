pub mod NumberTexts
pub mod Reading
