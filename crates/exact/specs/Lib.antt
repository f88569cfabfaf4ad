pub mod Choice
pub mod Decimal
pub mod Examples
pub mod Exponential
pub mod Fraction
pub mod Quantity
pub mod Text
