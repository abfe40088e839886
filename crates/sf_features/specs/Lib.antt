pub mod Names
pub mod Values
pub mod Order
pub mod Features
pub mod Columns
