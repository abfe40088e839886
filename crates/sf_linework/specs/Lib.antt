pub mod Ends
pub mod Alongside
pub mod Beside
pub mod Cover
pub mod Points
pub mod Crossed
