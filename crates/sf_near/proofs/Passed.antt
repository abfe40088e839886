-- Lemmas of the crates below, passed on to those that ask about pairs of features.
pub use Rattle.sf_query.proofs.FilterLaws.{IsFoundIn, each-found, found-passes, passes-found, rising-filter, value-found}
pub use Rattle.sf_query.proofs.QueryLaws.{far-fails, layer-fits}
pub use Rattle.sf_nearness.proofs.TurnLaws.{within-turns}
