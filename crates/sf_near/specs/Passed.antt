-- Internal: who wants to trust the program need not read this file.
-- Definitions of the crates below, passed on to those that ask about pairs of features.
pub use Rattle.sf_query.specs.declared.ask.Ask.{Ask}
pub use Rattle.sf_query.specs.declared.ask.Ask.TheVariants.{Matching, Named}
pub use Rattle.sf_query.specs.Answers.{dim_of_geometry, is_asked}
pub use Rattle.sf_query.specs.declared.refusal.Refusal.{Refusal}
pub use Rattle.sf_query.specs.declared.refusal.Refusal.TheVariants.{Memory, NoFeature, NoLayer}
pub use Rattle.sf_distance.specs.Reaches.{reach_limit, square_of_reach}
