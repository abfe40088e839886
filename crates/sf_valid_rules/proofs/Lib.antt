mod Computed
mod ComputedSimple
pub mod VerdictLaws
pub mod MemberLaws
pub mod TightLaws
pub mod AgreeLaws
pub mod SampledLaws
pub mod FirstLaws
