pub mod Coefficients
pub mod Examples
pub mod Integers
pub mod Promise
