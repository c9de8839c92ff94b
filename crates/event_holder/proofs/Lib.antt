pub mod Sizes
pub mod Held
