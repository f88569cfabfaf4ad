pub mod Given
pub mod Demands
pub mod Joinings
pub mod Asked
