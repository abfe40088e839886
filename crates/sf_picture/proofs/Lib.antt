pub mod Choices
pub mod Frames
pub mod Program
pub mod Texts
pub mod Views
