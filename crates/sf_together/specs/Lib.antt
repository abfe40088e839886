pub mod Outcomes
pub mod Copies
pub mod Exchanges
pub mod Plans
