pub mod Message
pub mod Places
