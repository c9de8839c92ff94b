pub mod Examples
pub mod PackExamples
