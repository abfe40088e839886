pub mod Crossing
pub mod Meeting
