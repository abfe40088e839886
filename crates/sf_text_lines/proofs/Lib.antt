pub mod FeedLemmas
pub mod LineLemmas
pub mod BufferLemmas
