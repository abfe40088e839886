-- Internal: who wants to trust the program need not read this file.
-- Which features are still to be removed: by exchanges, and by a set of them.
use Rattle.std.specs.Prelude.{◌≡◌, ℕ, Bool, ◌||◌, List}
use Rattle.std.specs.List.{list_any}
use Rattle.std.specs.BTreeSet.{BTreeSet, contains}
use Rattle.std.specs.Ordering.{nat_cmp, ordering_then}
use Rattle.std.specs.declared.cmp.Ordering.{Ordering}
use Rattle.sf_patches.specs.declared.slot.Slot.{Slot}
use Rattle.sf_patches.specs.Merged.{is_of_id}

-- whether the feature under an identifier is still to be removed from the layer at a place
abbrev pub is_leaving : List Slot → ℕ → ℕ → Bool
is_leaving leaving place id = list_any (is_of_id place id) leaving

-- features by the place of their layer, and then by their identifier
abbrev pub by_place : ℕ × ℕ → ℕ × ℕ → Ordering
by_place a b = ordering_then (nat_cmp a.0 b.0) (nat_cmp a.1 b.1)

-- the set has just the features of these exchanges
abbrev pub HasIds : BTreeSet (ℕ × ℕ) → List Slot → Type 0
HasIds ids slots = (place id : ℕ) → contains by_place ids (place, id) ≡ is_leaving slots place id

-- beside what it had it has the feature of this exchange, if it is of one
abbrev pub HasAlso : BTreeSet (ℕ × ℕ) → Slot → BTreeSet (ℕ × ℕ) → Type 0
HasAlso old slot new = (place id : ℕ) → contains by_place new (place, id) ≡ (contains by_place old (place, id) || is_of_id place id slot)
