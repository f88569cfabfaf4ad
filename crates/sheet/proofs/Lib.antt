pub mod Rules
pub mod Loading
