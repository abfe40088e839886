-- Internal: who wants to trust the program need not read this file.
-- When a patch, read off a content, leads to it.
use Rattle.std.specs.Prelude.{◌≡◌, ℕ, Bool, false, ◌&&◌, List, [], ◌∷◌, nat_eq}
use Rattle.std.specs.List.{list_any, AllByRecursion}
use Rattle.sf_layers.specs.Content.{Content, LayerContent, feature_at}
use Rattle.sf_patches.specs.declared.slot.Slot.{Slot}
use Rattle.sf_patches.specs.declared.slot.Slot.TheVariants.{Counter, State}
use Rattle.sf_patches.specs.Patches.{next_id_at}

-- all that two layers have but features and the next identifier is the same
abbrev pub HaveOneHead : LayerContent → LayerContent → Type 0
HaveOneHead a b = (a.kind ≡ b.kind) × (a.next_column ≡ b.next_column) × (a.columns ≡ b.columns)

-- the same layers in one order
abbrev pub HaveOneOrder : Content → Content → Type 0
HaveOneOrder [] [] = Unit {0}
HaveOneOrder (a ∷ c) (b ∷ d) = (a.0 ≡ b.0) × HaveOneHead a.1 b.1 × HaveOneOrder c d
HaveOneOrder c d = ⊥

-- whether an exchange is of this identifier, or of this counter
abbrev pub is_of_id : ℕ → ℕ → Slot → Bool
is_of_id place id (Counter p n) = false
is_of_id place id (State p i state) = nat_eq p place && nat_eq i id

abbrev pub is_of_counter : ℕ → Slot → Bool
is_of_counter place (Counter p n) = nat_eq p place
is_of_counter place (State p i state) = false

-- the exchange puts what the content has there
abbrev pub IsReadOff : Content → Slot → Type 0
IsReadOff content (Counter place next_id) = next_id ≡ next_id_at content place
IsReadOff content (State place id state) = state ≡ feature_at content place id

-- the patch has all in which two contents differ, and is read off the second
pub record HasAllChanges (old new : Content) (slots : List Slot) : Type 0 where
  pub order : HaveOneOrder old new
  pub read_off : AllByRecursion (IsReadOff new) slots
  pub features : (place id : ℕ) → list_any (is_of_id place id) slots ≡ false → feature_at old place id ≡ feature_at new place id
  pub counters : (place : ℕ) → list_any (is_of_counter place) slots ≡ false → next_id_at old place ≡ next_id_at new place
