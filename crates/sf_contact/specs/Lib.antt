pub mod Absence
pub mod Divided
pub mod EdgeContact
pub mod Few
pub mod Pairs
