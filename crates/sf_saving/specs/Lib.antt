pub use Rattle.sf_format.specs.Canonical
pub mod Fits
pub mod Parts
