pub mod Pieces
pub mod Samples
pub mod Cells
pub mod Groups
pub mod Hands
pub mod Listing
