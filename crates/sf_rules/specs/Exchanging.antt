-- Internal: who wants to trust the program need not read this file.
-- Why a patch in two halves is not exchanged under rules.
use Rattle.std.specs.Prelude.{◌≡◌, List, None, Some}
use Rattle.sf_layers.specs.Content.{Content}
use Rattle.sf_patches.specs.declared.slot.Slot.{Slot}
use Rattle.sf_rules.specs.declared.exchanging.NotExchanged.{NotExchanged}
use Rattle.sf_rules.specs.declared.exchanging.NotExchanged.TheVariants.{Broken, Memory}
use Rattle.sf_rules.specs.declared.rule.Rule.{Rule}
use Rattle.sf_rules.specs.Underway.{ComesOf}
use Rattle.sf_rules.specs.Rules.{first_broken}

-- why they are not exchanged: the first rule that would be broken, or no memory was found
abbrev pub IsRefusedUnder : Content → List Rule → NotExchanged → Type 0
IsRefusedUnder content rules (Broken broken) = first_broken content rules ≡ Some broken
IsRefusedUnder content rules Memory = Unit {0}

-- the rules held before the exchanges that these take back
abbrev pub ComesOfGrowing : Content → List Slot → List Rule → Type 0
ComesOfGrowing now made rules = (old : Content) × ComesOf old now made × (first_broken old rules ≡ None)
