pub mod Refusals
pub mod Held
pub mod Beside
pub mod Changed
