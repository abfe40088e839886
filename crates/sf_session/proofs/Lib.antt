pub mod OpeningLaws
pub mod OpenedLaws
pub mod FollowingLaws
pub mod CrashLaws
pub mod SessionLaws
