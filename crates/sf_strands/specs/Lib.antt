pub mod Tangles
pub mod Strands
pub mod Tight
pub mod Walks
pub mod Pairs
pub mod Changed
pub mod Beside
