pub mod Openings
pub mod Saving
pub mod Answering
pub mod Sessions
pub mod Faults
pub mod Laws
