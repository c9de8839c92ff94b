pub mod One
pub mod Kept
pub mod LineKept
pub mod BarkKept
pub mod TickKept
