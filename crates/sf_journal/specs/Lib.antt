pub mod Crc
pub mod Records
pub mod Readings
pub mod Fronts
pub mod Sums
