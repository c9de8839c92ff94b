pub mod Costs
pub mod TickProof
pub mod MoveProof
pub mod RoundProof
pub mod Applied
