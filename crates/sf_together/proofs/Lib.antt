pub mod ListLaws
pub mod Parts
pub mod FrameLaws
pub mod FitLaws
pub mod ChangeLaws
pub mod CopyLaws
pub mod PlanLaws
pub mod CallLaws
pub mod WeightLaws
mod Computed
