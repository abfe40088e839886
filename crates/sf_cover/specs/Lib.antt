pub mod Covered
pub mod Near
