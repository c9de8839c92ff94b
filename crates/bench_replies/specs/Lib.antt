pub mod Kinds
pub mod PlanText
pub mod Reply
