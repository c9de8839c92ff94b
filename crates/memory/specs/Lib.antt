pub mod Sizes
pub mod Parts
pub mod Memory
