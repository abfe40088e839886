pub mod Edges
pub mod Boxes
pub mod Improved
