pub mod Records
pub mod Alike
pub mod Sizes
pub mod Trees
pub mod Steps
