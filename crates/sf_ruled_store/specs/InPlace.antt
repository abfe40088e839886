-- Internal: who wants to trust the program need not read this file.
-- Edits that are carried out in place: those that only rules on values see, and that are taken back without memory.
use Rattle.std.specs.Prelude.{◌≡◌, ℕ, Bool, false, true, not, ◌&&◌, List}
use Rattle.std.specs.List.{list_any}
use Rattle.sf_layers.specs.Content.{Content}
use Rattle.sf_layers.specs.WellFormed.{IsWellFormed}
use Rattle.sf_steps.specs.declared.edit.Edit.{Edit}
use Rattle.sf_steps.specs.declared.edit.Edit.TheVariants.{AddFeature, SetValue}
use Rattle.sf_steps.specs.declared.inverse.Inverse.{Inverse}
use Rattle.sf_steps.specs.Inverses.{Accepts, inverse_of}
use Rattle.sf_rules.specs.declared.rule.Rule.{Rule}
use Rattle.sf_rules.specs.declared.rule.Says.{Says}
use Rattle.sf_rules.specs.declared.rule.Says.TheVariants.{OfLayers, OfValues}
use Rattle.sf_ruled_store.specs.Outcomes.{ruled}
use Rattle.sf_ruled_store.specs.Undos.{IsSettled, sees_said}

-- whether an edit puts a feature or a value where it is taken out again without memory
abbrev pub puts_only : Edit → Bool
puts_only (AddFeature name geometry) = true
puts_only (SetValue name id column value) = true
puts_only edit = false

-- whether a rule between layers sees the edit
abbrev pub sees_between : Edit → Says → Bool
sees_between edit (OfLayers rule) = sees_said edit (OfLayers rule)
sees_between edit (OfValues rule) = false

abbrev pub is_seen_between : Edit → List Rule → Bool
is_seen_between edit rules = list_any (λ rule. sees_between edit rule.says) rules

abbrev pub is_in_place : Edit → List Rule → Bool
is_in_place edit rules = puts_only edit && not (is_seen_between edit rules)

-- such an edit was accepted where rules held, and the inverse takes it back
pub record WasPut (rules : List Rule) (inverse : Inverse) (now : Content) : Type 0 where
  pub old : Content
  pub edit : Edit
  pub fine : IsWellFormed old
  pub settled : IsSettled (ruled old rules)
  pub in_place : is_in_place edit rules ≡ true
  pub accepts : Accepts old edit inverse now
  pub is : inverse ≡ inverse_of old edit
