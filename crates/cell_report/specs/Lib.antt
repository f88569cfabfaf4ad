pub mod CellReport
pub mod Examples
