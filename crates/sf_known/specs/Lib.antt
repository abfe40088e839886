pub mod Entries
pub mod Patterns
pub mod Predicates
pub mod Goals
pub mod Transposed
pub mod Known
