-- Lemmas of the crates below, passed on to those that keep rules between features.
pub use Rattle.sf_near.proofs.Passed.{IsFoundIn, each-found, far-fails, found-passes, layer-fits, passes-found, rising-filter, value-found}
pub use Rattle.sf_near.proofs.FeatureLaws.{geometries-valid}
