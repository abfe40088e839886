pub mod FilterLaws
pub mod EvidenceLaws
pub mod QueryLaws
pub mod Computed
pub mod ComputedThousand
