pub mod Areas
pub mod Lengths
pub mod Texts
pub mod Laws
