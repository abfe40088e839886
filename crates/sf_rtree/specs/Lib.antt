pub mod Boxed
pub mod Indexes
pub mod Subtrees
pub mod Nodes
pub mod Falls
pub mod Growths
pub mod Curves
pub mod Levels
