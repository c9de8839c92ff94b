pub mod Choosing
pub mod Order
pub mod Rows
pub mod Proposing
