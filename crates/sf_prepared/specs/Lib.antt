pub mod Boxes
pub mod Places
pub mod Nearby
pub mod Transposed
