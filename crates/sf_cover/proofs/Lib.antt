pub mod Members
pub mod CoverLaws
pub mod NearLaws
pub mod Computed
