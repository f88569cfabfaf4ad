pub mod Decimal
pub mod Examples
pub mod Fields
pub mod Line
