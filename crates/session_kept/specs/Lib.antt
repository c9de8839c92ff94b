pub mod CallContracts
pub mod Kept
pub mod One
