pub mod Changes
pub mod Ruled
pub mod Laws
pub mod Outcomes
pub mod Undos
pub mod Stepped
pub mod Ruling
pub mod InPlace
