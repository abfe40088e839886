pub mod LeavingLaws
pub mod SegmentLaws
pub mod NearLaws
pub mod ListedLaws
pub mod ContactLaws
pub mod PairLaws
pub mod TurnLaws
