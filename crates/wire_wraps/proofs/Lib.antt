pub mod Named
pub mod Wraps
