-- Internal: who wants to trust the program need not read this file.
-- The indexes of a layer by the values of its features: what they have of the features, at least.
use Rattle.std.specs.Prelude.{◌≡◌, ℕ, ◌≤◌, Bool, false, List, Option, None, Some, IfSome, IsSomeAnd, IsTrue, nat_eq, map, filter}
use Rattle.std.specs.BTreeMap.{is_at}
use Rattle.std.specs.BTreeMap.Range.{range_contains}
use Rattle.std.specs.List.{AllByRecursion, Contains, list_any}
use Rattle.std.specs.List.Sorted.{IsStrictlySortedBy}
use Rattle.std.specs.Map.{lookup}
use Rattle.std.specs.Ordering.{nat_cmp, on, then_cmp}
use Rattle.std.specs.declared.ops.Bound.{Bound}
use Rattle.std.specs.declared.ops.Bound.TheVariants.{Included, Unbounded}
use Rattle.std.specs.declared.cmp.Ordering.{Ordering}
use Rattle.sf_features.specs.declared.attr_value.AttrValue.{AttrValue}
use Rattle.sf_features.specs.Features.{FeatureContent}
use Rattle.sf_features.specs.Order.{value_cmp}
use Rattle.sf_layers.specs.Moves.{Features}
use Rattle.sf_layers.specs.declared.value_key.ValueKey.{ValueKey}

-- the greatest identifier that there can be
abbrev pub id_max : ℕ
id_max = 4294967295

-- a value with an identifier
abbrev pub key : AttrValue → ℕ → ValueKey
key value id = record { value = value; id = id }

-- the order of the pairs of an index: by value, and then by identifier
abbrev pub key_cmp : ValueKey → ValueKey → Ordering
key_cmp = then_cmp (on (λ pair. pair.value) value_cmp) (on (λ pair. pair.id) nat_cmp)

-- the pairs of the index of a column, in their order
abbrev pub Pairs : Type 0
Pairs = List ValueKey

-- an index has the pair of a value and an identifier
abbrev pub HasPair : Pairs → AttrValue → ℕ → Type 0
HasPair pairs value id = (id ≤ id_max) × IsTrue (list_any (is_at (key_cmp (key value id))) pairs)

-- an index has the pairs that it had
abbrev pub Grows : Pairs → Pairs → Type 0
Grows old new = (value : AttrValue) → (id : ℕ) → HasPair old value id → HasPair new value id

-- an index has the pairs of a feature's values in the column of a number
abbrev pub HasThose : ℕ → Pairs → ℕ → FeatureContent → Type 0
HasThose number pairs id feature = AllByRecursion (λ entry. number ≡ entry.0 → HasPair pairs entry.1 id) feature.values

-- and those of these features
abbrev pub HasAll : ℕ → Pairs → Features → Type 0
HasAll number pairs features = AllByRecursion (λ entry. HasThose number pairs entry.0 entry.1) features

-- identifiers of all pairs whose value passes a test
abbrev pub HasEach : (AttrValue → Bool) → Pairs → List ℕ → Type 0
HasEach test pairs ids = (value : AttrValue) → (id : ℕ) → HasPair pairs value id → IsTrue (test value) → Contains ids id

-- identifiers that rise, among them those of all these pairs
abbrev pub Lists : (AttrValue → Bool) → Pairs → List ℕ → Type 0
Lists test pairs ids = IsStrictlySortedBy nat_cmp ids × HasEach test pairs ids

-- identifiers that rise, among them those of the pairs between two bounds
abbrev pub HasRun : Bound ValueKey → Bound ValueKey → Pairs → List ℕ → Type 0
HasRun start end pairs ids =
    IsStrictlySortedBy nat_cmp ids × ((id : ℕ) → Contains (map (λ pair. pair.id) (filter (range_contains key_cmp start end) pairs)) id → Contains ids id)

-- indexes by column number
abbrev pub Indexes : Type 0
Indexes = List (ℕ × Pairs)

-- the index of a column, where there is one, has the pair of this value and this identifier
abbrev pub IsKnown : Indexes → ℕ → ℕ → AttrValue → Type 0
IsKnown indexes id number value = IfSome (lookup (nat_eq number) indexes) (λ pairs. HasPair pairs value id)

-- a column has an index, and identifiers are what that lists of the pairs whose value passes a test
abbrev pub AreListed : (AttrValue → Bool) → ℕ → Indexes → List ℕ → Type 0
AreListed test number indexes ids = IsSomeAnd (lookup (nat_eq number) indexes) (λ pairs. Lists test pairs ids)

-- indexes have the pairs of a feature's values
abbrev pub IsNoted : Indexes → ℕ → FeatureContent → Type 0
IsNoted indexes id feature = AllByRecursion (λ entry. IsKnown indexes id entry.0 entry.1) feature.values

-- and those of these features; they may have more, of values that were there once
abbrev pub AreNoted : Indexes → Features → Type 0
AreNoted indexes features = AllByRecursion (λ entry. IsNoted indexes entry.0 entry.1) features

-- each index that is there has the pairs that it had
abbrev pub AreKept : Indexes → Indexes → Type 0
AreKept old new = (number : ℕ) → IfSome (lookup (nat_eq number) new) (λ after. IsSomeAnd (lookup (nat_eq number) old) (λ before. Grows before after))

-- where the pairs begin whose values are at an end or behind it, and where those end whose values are at an end or before it
abbrev pub start_at : Option AttrValue → Bound ValueKey
start_at None = Unbounded
start_at (Some value) = Included (key value 0)

abbrev pub end_at : Option AttrValue → Bound ValueKey
end_at None = Unbounded
end_at (Some value) = Included (key value id_max)
