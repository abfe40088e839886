-- Rules hold in every content that steps lead to, and nothing is refused for a rule without need.
use Rattle.std.specs.Prelude.{◌≡◌, Ok, Err}
use Rattle.sf_layers.specs.WellFormed.{IsWellFormed}
use Rattle.sf_rules.specs.declared.breaks.Broken.{Broken}
use Rattle.sf_rules.specs.Holds.{AllHold, IsBrokenBy}
use Rattle.sf_ruled_store.specs.Ruled.{Asked, OfChange, AddRule, DropRule, Ruled, change_led, ruled_step, rules_after, with_rule}
use Rattle.sf_ruled_store.specs.declared.refusal.Refusal.TheVariants.{RuleBroken}

-- all rules hold, over all points of the plane
abbrev pub IsKept : Ruled → Type 0
IsKept ruled = AllHold ruled.content ruled.rules

-- an accepted step leads from a content in which all rules hold to one in which all of its rules do
abbrev pub RuledStepsKeepRules : Type 0
RuledStepsKeepRules =
    (old new : Ruled) (asked : Asked) → IsWellFormed old.content → IsWellFormed new.content → IsKept old → ruled_step old asked ≡ Ok new → IsKept new

-- what a step leads to where rules are not looked at
abbrev pub WouldLead : Ruled → Asked → Ruled → Type 0
WouldLead old (OfChange change) new = (change_led old.content change ≡ Ok new.content) × (new.rules ≡ rules_after old.rules change)
WouldLead old (AddRule rule) new = new ≡ with_rule old rule
WouldLead old (DropRule name) new = ⊥

-- a step that is refused for a rule would have led to a content in which this rule is broken, by the features that are reported
pub record IsRefusedRightly (old : Ruled) (asked : Asked) (broken : Broken) : Type 0 where
  pub new : Ruled
  pub led : WouldLead old asked new
  pub broke : IsWellFormed new.content → IsBrokenBy new.content new.rules broken

abbrev pub RefusalsNameBreaks : Type 0
RefusalsNameBreaks = (old : Ruled) (asked : Asked) (broken : Broken) → ruled_step old asked ≡ Err (RuleBroken broken) → IsRefusedRightly old asked broken
