pub mod ListLaws
pub mod SizeLaws
pub mod Filled
pub mod BackLaws
pub mod ChangeLaws
pub mod OutcomeLaws
pub mod WalkLaws
mod Computed
