pub mod Told
pub mod Asks
