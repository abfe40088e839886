pub mod Chains
pub mod Answers
pub mod Replies
pub mod Added
pub mod Found
