pub mod BoxLaws
mod Computed
pub mod NodeLaws
pub mod NearLaws
pub mod PairLaws
pub mod SearchLaws
pub mod MeetingLaws
pub mod EnvelopeLaws
