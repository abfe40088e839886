pub mod FitLaws
pub mod LowBytes
pub mod PartLaws
