pub mod Sizes
pub mod Shed
pub mod Empty
