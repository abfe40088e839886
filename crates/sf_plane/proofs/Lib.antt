pub mod CompareLaws
pub mod PlaceLaws
pub mod StripLaws
pub mod AlikeLaws
pub mod CoverLaws
pub mod FormLaws
pub mod SampleCellLaws
pub mod GuardLaws
pub mod MissLaws
pub mod UnionLaws
pub mod PassLaws
pub mod SidesLaws
pub mod ShareLaws
pub mod CombineLaws
pub mod TwiceLaws
pub mod CountLaws
pub mod BoxLaws
mod Computed
