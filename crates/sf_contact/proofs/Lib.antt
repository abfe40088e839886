pub mod LowestLaws
pub mod AbsenceLaws
pub mod PairLaws
pub mod StartLaws
pub mod NearLaws
pub mod DividedLaws
