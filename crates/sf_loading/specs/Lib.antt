pub use Rattle.sf_format.specs.Stored
pub mod Streaming
pub mod Loading
pub mod Types
pub mod Layers
pub mod Kept
