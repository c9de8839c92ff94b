pub mod Words
pub mod Scan
pub mod Examples
