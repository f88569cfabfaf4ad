pub mod Demands
pub mod Joinings
