pub mod Done
pub mod Four
pub mod Turns
pub mod Less
pub mod Enough
pub mod Did
