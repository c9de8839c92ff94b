pub mod StreamLaws
pub mod Kept
pub mod Cuts
pub mod Ends
pub mod PackLaws
pub mod PackRecords
pub mod PackCuts
pub mod Lent
