pub mod Escapes
pub mod Values
pub mod Kinds
