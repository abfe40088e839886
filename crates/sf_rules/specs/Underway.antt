-- Internal: who wants to trust the program need not read this file.
-- A content whose rules held before exchanges were made, and the two layers of a rule.
use Rattle.std.specs.Prelude.{◌≡◌, ◌⊎◌, ◌&&◌, ℕ, List, None, Option, Some, bytes_eq, false, nat_eq}
use Rattle.std.specs.List.{AllByRecursion}
use Rattle.sf_layers.specs.Content.{Content, feature_in, layer_of, place_of}
use Rattle.sf_layers.specs.WellFormed.{IsWellFormed}
use Rattle.sf_patches.specs.declared.slot.Slot.{Slot}
use Rattle.sf_patches.specs.Fits.{StayFine}
use Rattle.sf_patches.specs.Halves.{RemovesOnly}
use Rattle.sf_patches.specs.Merged.{HaveOneOrder}
use Rattle.sf_patches.specs.Patches.{patched, undoing}
use Rattle.sf_joins.specs.Converse.{IsPairAsk, converse_pair}
use Rattle.sf_rules.specs.declared.between.Between.{Between}
use Rattle.sf_rules.specs.declared.rule.LayerRule.{LayerRule}
use Rattle.sf_rules.specs.declared.rule.Rule.{Rule}
use Rattle.sf_rules.specs.declared.rule.Says.{Says}
use Rattle.sf_rules.specs.declared.rule.Says.TheVariants.{OfLayers, OfValues}
use Rattle.sf_rules.specs.Rules.{break_between, break_of_values}

-- a content comes of another one by exchanges, of which these are what takes them back
pub record ComesOf (old now : Content) (made : List Slot) : Type 0 where
  pub exchanges : List Slot
  pub well_formed : IsWellFormed old
  pub fine : StayFine old exchanges
  pub led : now ≡ patched old exchanges
  pub recorded : made ≡ undoing old exchanges

-- exchanges that only remove can be made in a content
pub record CanLeave (now : Content) (leaving : List Slot) : Type 0 where
  pub only : RemovesOnly leaving
  pub fine : StayFine now leaving

-- the two layers of a rule in a content
pub record IsBetween (content : Content) (rule : LayerRule) (leaving : List Slot) (between : Between) : Type 0 where
  pub well_formed : IsWellFormed content
  pub first : layer_of content rule.first ≡ Some between.first.now
  pub second : layer_of content rule.second ≡ Some between.second.now
  pub first_place : between.first_place ≡ place_of content rule.first
  pub second_place : between.second_place ≡ place_of content rule.second
  pub one : between.one ≡ bytes_eq rule.first rule.second
  pub ask : between.ask ≡ rule.ask
  pub turned : between.converse ≡ converse_pair rule.ask
  pub askable : IsPairAsk rule.ask
  pub leaves : between.leaving.now ≡ leaving

-- they are given, or one is not there
abbrev pub IsBetweenOrMissing : Content → LayerRule → List Slot → Option Between → Type 0
IsBetweenOrMissing content rule leaving (Some between) = IsBetween content rule leaving between
IsBetweenOrMissing content rule leaving None = (layer_of content rule.first ≡ None) ⊎ (layer_of content rule.second ≡ None)

-- ---- one feature that was changed

-- two contents have the same layers with the same columns, and the same features but for the one under an identifier of a layer
pub record DiffersAt (name : List ℕ) (id : ℕ) (old now : Content) : Type 0 where
  pub order : HaveOneOrder old now
  pub features : (other : List ℕ) (j : ℕ) → bytes_eq name other && nat_eq id j ≡ false → feature_in now other j ≡ feature_in old other j

-- a rule on values held before the change, and one between layers holds after it
abbrev pub HeldSaid : Content → Content → Says → Type 0
HeldSaid old now (OfLayers rule) = break_between now rule ≡ None
HeldSaid old now (OfValues rule) = break_of_values old rule ≡ None

abbrev pub HeldBefore : List ℕ → ℕ → Content → List Rule → Type 0
HeldBefore name id now rules = (old : Content) × DiffersAt name id old now × AllByRecursion (λ rule. HeldSaid old now rule.says) rules
