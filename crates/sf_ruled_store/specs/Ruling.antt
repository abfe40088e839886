-- Internal: who wants to trust the program need not read this file.
-- What rules are made of, in the words of the crates below, passed on to those that show, save and load them.
pub use Rattle.sf_rules.specs.Asked.{Ask, HasNineLetters, IsPairAsk, Matching, Matrix, Named, Near, PairAsk}
pub use Rattle.sf_rules.specs.declared.rule.Rule.{Rule}
pub use Rattle.sf_rules.specs.declared.rule.Says.{Says}
pub use Rattle.sf_rules.specs.declared.rule.Says.TheVariants.{OfLayers, OfValues}
pub use Rattle.sf_rules.specs.declared.rule.LayerRule.{LayerRule}
pub use Rattle.sf_rules.specs.declared.rule.ValueRule.{ValueRule}
pub use Rattle.sf_rules.specs.declared.rule.Demand.{Demand}
pub use Rattle.sf_rules.specs.declared.rule.Demand.TheVariants.{InRange, OneOf, Required, Unique}
pub use Rattle.sf_rules.specs.declared.rule.Form.{Form}
pub use Rattle.sf_rules.specs.declared.rule.Form.TheVariants.{Each, Never}
pub use Rattle.sf_rules.specs.declared.breaks.Break.{Break}
pub use Rattle.sf_rules.specs.declared.breaks.Break.TheVariants.{Alone, Pair}
pub use Rattle.sf_rules.specs.declared.breaks.Broken.{Broken}
pub use Rattle.sf_rules.specs.Rules.{break_of, broken_from, broken_or, first_broken}
pub use Rattle.sf_rules.specs.Holds.{AllHold, HasNamed}
