pub mod Leaving
pub mod Segments
pub mod Sets
pub mod Near
pub mod Least
pub mod Laws
