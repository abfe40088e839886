pub mod Faults
pub mod Conditions
pub mod Shapes
pub mod Rules
pub mod Validity
pub mod Simplicity
pub mod Verdicts
