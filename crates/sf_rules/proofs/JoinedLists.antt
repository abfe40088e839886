-- A law of lists of pairs, passed on to the crates above.
pub use Rattle.sf_joins.proofs.PairLaws.{each-append}
