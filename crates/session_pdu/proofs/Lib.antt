pub mod Filling
pub mod Writing
