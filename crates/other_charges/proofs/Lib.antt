pub mod ChargeLaws
pub mod Examples
