pub mod Apart
pub mod Dimensions
pub mod Vertices
pub mod Paths
