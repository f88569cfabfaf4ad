pub mod Charge
pub mod Computation
pub mod CreditFactor
pub mod Examples
pub mod Promise
pub mod Tables
pub mod Words
