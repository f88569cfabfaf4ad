pub mod FirstNewline
pub mod Held
