pub mod Division
pub mod Examples
pub mod Figures
pub mod Sums
pub mod Words
