mod CrcLaws
pub mod RecordLaws
pub mod FeedLaws
pub mod FrontLaws
mod SumLaws
mod Rows
