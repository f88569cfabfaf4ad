pub mod Sheet
pub mod Loading
