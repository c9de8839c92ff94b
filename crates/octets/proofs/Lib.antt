pub mod Parts
pub mod Same
pub mod Fours
pub mod Zeros
pub mod Tab
pub mod Bits
