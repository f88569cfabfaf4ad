pub mod Regions
pub mod FileOrder
pub mod NextFile
