pub mod Decimal
pub mod Onto
pub mod Numbers
pub mod Lines
pub mod Examples
pub mod Fields
pub mod LineCounts
