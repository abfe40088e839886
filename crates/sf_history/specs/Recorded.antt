-- Internal: who wants to trust the program need not read this file.
-- What a history is of, in the words of the crates below, passed on to those that carry out commands.
pub use Rattle.sf_ruled_store.specs.Ruled.{AddRule, DropRule, OfChange, Ruled, added, after_change, edit_led, group_led, has_column_in, has_columns_of, has_layers_of, has_named, has_rule, place_of_rule, rules_after, rules_max, settled, unless_broken, why_missing, with_rule, without_rule}
pub use Rattle.sf_ruled_store.specs.declared.refusal.Refusal.{Refusal as StepRefusal}
pub use Rattle.sf_ruled_store.specs.declared.refusal.Refusal.TheVariants as refusals
pub use Rattle.sf_ruled_store.specs.Ruling.{Alone, Break, Broken, Demand, Each, Form, InRange, LayerRule, Never, OfLayers, OfValues, OneOf, Pair, Required, Rule, Says, Unique, ValueRule, break_of, broken_or, first_broken}
pub use Rattle.sf_ruled_store.specs.Stepped.{OfEdit, OfGroup}
