-- A law of rules, passed on to the crates above.
pub use Rattle.sf_rules.proofs.HoldsLaws.{rules_are_over_the_plane}
