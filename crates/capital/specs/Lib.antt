pub mod Arguments
pub mod Files
pub mod Reads
