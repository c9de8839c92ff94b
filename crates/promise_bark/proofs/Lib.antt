pub mod Queues
pub mod BarkProof
