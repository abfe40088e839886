-- The laws of a prepared geometry that proofs here cite, passed on from one place. Declares nothing.
pub use Rattle.sf_prepared.proofs.EdgeLaws.{none-said, off-box}
pub use Rattle.sf_prepared.proofs.TransposedLaws.{matrices_are_transposed}
