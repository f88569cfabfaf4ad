pub mod Regions
pub mod NextFile
