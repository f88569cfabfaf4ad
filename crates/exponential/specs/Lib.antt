pub mod Exponential
pub mod Promise
pub mod Table
