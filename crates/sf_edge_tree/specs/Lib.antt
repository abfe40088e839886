pub mod Boxes
pub mod Searches
pub mod Nodes
pub mod Ranges
pub mod Near
pub mod Meeting
