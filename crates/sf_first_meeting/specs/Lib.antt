pub mod Numbered
pub mod Sheared
pub mod Orders
pub mod Sweeps
pub mod Spots
pub mod Tables
