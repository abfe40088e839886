pub mod ListLaws
pub mod StepLaws
pub mod RoundLaws
pub mod AddedLaws
pub mod FoundLaws
pub mod WalkLaws
pub mod ReplyLaws
mod Computed
