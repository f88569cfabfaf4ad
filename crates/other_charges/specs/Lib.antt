pub mod Charges
pub mod Examples
pub mod Parts
