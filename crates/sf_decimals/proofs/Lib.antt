pub mod Digits
pub mod RoundTrip
pub mod Reduced
pub mod Written
pub mod OneForm
mod Computed
