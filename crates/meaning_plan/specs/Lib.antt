pub mod Plan
pub mod PlanOctets
pub mod Rising
pub mod Loops
pub mod PlanExamples
