pub mod Coarse
pub mod Plan
pub mod PlanOf
pub mod QueryPlan
pub mod Range
pub mod inner
