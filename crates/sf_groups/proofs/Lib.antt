pub mod LocalLaws
pub mod WeightLaws
pub mod ShownLaws
pub mod TogetherLaws
pub mod GroupsFine
pub mod Pushed
mod Computed
