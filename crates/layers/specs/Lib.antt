pub mod Shown
pub mod TreeText
