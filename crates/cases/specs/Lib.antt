pub mod Numbers
pub mod Trials
