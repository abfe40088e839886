pub mod Calls
pub mod Disks
pub mod Openings
pub mod Saves
pub mod Renewals
pub mod Laws
pub mod Besides
