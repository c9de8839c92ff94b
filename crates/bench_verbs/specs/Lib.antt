pub mod Line
pub mod Limits
pub mod Examples
