pub mod Orders
pub mod Candidates
pub mod Places
pub mod Computed
pub mod Written
