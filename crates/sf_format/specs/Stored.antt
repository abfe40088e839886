-- Internal: who wants to trust the program need not read this file.
-- What a file is of, in the words of the crates below, passed on to those that load and save it.
pub use Rattle.sf_ruled_store.specs.Ruling.{Ask, PairAsk}
pub use Rattle.sf_ruled_store.specs.Ruling.{Matching, Matrix, Named, Near}
pub use Rattle.sf_ruled_store.specs.Ruling.{Rule, Says, OfLayers, OfValues}
pub use Rattle.sf_ruled_store.specs.Ruling.{Demand, InRange, OneOf, Required, Unique}
pub use Rattle.sf_ruled_store.specs.Ruling.{Break}
pub use Rattle.sf_ruled_store.specs.Ruling.{break_of, broken_or}
pub use Rattle.sf_ruled_store.specs.declared.refusal.Refusal.{Refusal}
pub use Rattle.sf_ruled_store.specs.declared.refusal.Refusal.TheVariants as refusals
pub use Rattle.sf_ruled_store.specs.Ruled.{Ruled, added, fits_column, fits_layer, has_columns_of, has_layers_of, has_named, has_rule, has_said, place_of_rule, rules_max, unless_broken, with_rule}
pub use Rattle.sf_ruled_store.specs.Outcomes.{IsRefusedAs}
pub use Rattle.sf_ruled_store.specs.Laws.{IsKept}
