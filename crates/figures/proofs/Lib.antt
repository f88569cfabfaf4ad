pub mod DivisionLaws
pub mod Examples
pub mod FiguresLaws
pub mod SumsLaws
pub mod Words
