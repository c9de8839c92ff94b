pub mod NetProof
pub mod Ways
pub mod PacketProof
