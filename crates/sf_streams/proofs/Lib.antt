pub mod Putting
pub mod ReadingLaws
pub mod SendingLaws
