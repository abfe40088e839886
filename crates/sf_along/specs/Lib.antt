pub mod Along
pub mod Covers
pub mod Marks
pub mod Near
pub mod Runs
