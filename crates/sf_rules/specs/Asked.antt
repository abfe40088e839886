-- Internal: who wants to trust the program need not read this file.
-- What a rule asks, in the words of the crates below, passed on to those that keep rules.
pub use Rattle.sf_joins.specs.Passed.{Ask}
pub use Rattle.sf_joins.specs.Passed.{Matching, Named}
pub use Rattle.sf_joins.specs.Passed.{PairAsk}
pub use Rattle.sf_joins.specs.Passed.{Matrix, Near}
pub use Rattle.sf_joins.specs.Joins.{is_pair}
pub use Rattle.sf_joins.specs.Converse.{HasNineLetters, IsPairAsk}
