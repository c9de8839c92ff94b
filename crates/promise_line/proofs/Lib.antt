pub mod Steps
pub mod LineProof
pub mod LineRefusals
