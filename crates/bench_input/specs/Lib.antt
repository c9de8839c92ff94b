pub mod Kept
pub mod Input
