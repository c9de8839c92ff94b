pub mod Four
pub mod Obeying
pub mod Telling
