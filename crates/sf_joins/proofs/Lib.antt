pub mod ConverseLaws
pub mod PairLaws
pub mod PlaneLaws
pub mod LoopLaws
pub mod Passed
mod Computed
