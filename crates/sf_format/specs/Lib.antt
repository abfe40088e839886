pub mod Stored
pub mod Defects
pub mod Readings
pub mod Format
pub mod Canonical
pub mod Laws
