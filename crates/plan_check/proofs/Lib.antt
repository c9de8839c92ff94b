pub mod Checking
pub mod Numbered
