pub mod ReachLaws
pub mod GrownLaws
pub mod SpanLaws
pub mod PassLaws
pub mod FeatureLaws
mod Computed
pub mod NearerLaws
pub mod OrderedLaws
pub mod FoundLaws
pub mod AroundLaws
pub mod AskedLaws
pub mod Passed
