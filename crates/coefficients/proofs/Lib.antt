pub mod CoefficientLaws
pub mod Examples
