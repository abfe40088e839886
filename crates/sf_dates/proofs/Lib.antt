pub mod Numbers
pub mod Padded
pub mod Days
pub mod Moments
mod Computed
pub mod Given
