pub mod OneOrder
pub mod CarriedOut
pub mod RulesSound
pub mod Planner
pub mod PlanKept
pub mod HandedOver
