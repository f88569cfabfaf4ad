pub mod Bytes
pub mod Law
pub mod LineLaws
pub mod Program
pub mod Runs
pub mod InputLines
