-- Internal: who wants to trust the program need not read this file.
-- Definitions of the crates below, passed on to those that keep rules between features.
pub use Rattle.sf_near.specs.Passed.{Ask, Matching, Named}
pub use Rattle.sf_near.specs.declared.pair_ask.PairAsk.{PairAsk}
pub use Rattle.sf_near.specs.declared.pair_ask.PairAsk.TheVariants.{Matrix, Near}
pub use Rattle.sf_near.specs.Pairs.{are_asked, ids_asked, pair_needs_contact}
