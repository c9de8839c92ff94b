pub mod Fields
pub mod Records
pub mod Exact
pub mod Places
pub mod Steps
pub mod Whole
