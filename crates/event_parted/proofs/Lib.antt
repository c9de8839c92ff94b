pub mod Branches
pub mod Labels
pub mod Routes
