-- Internal: who wants to trust the program need not read this file.
-- The order of entries: by the place of their boxes on the curve, and then by identifier.
use Rattle.std.specs.Prelude.{◌≡◌, Bool, ◌&&◌, ◌||◌, List, [], ◌∷◌, nat_eq, nat_lt, IsFalse, if◌then◌else◌}
use Rattle.std.specs.List.{AllByRecursion}
use Rattle.sf_rtree.specs.declared.entry.Key.{Key}
use Rattle.sf_rtree.specs.Boxed.{Boxed, place_of}

-- the key of an entry
abbrev pub key_of : Boxed → Key
key_of e = record { place = place_of e.extent; id = e.id }

-- one key comes before another
abbrev pub comes_before : Key → Key → Bool
comes_before k l = nat_lt k.place l.place || (nat_eq k.place l.place && nat_lt k.id l.id)

-- both are one key
abbrev pub is_key : Key → Key → Bool
is_key k l = nat_eq k.place l.place && nat_eq k.id l.id

-- none comes before an earlier one
abbrev pub AreInOrder : List Boxed → Type 0
AreInOrder [] = Unit {0}
AreInOrder (e ∷ es) = AllByRecursion (λ f. IsFalse (comes_before (key_of f) (key_of e))) es × AreInOrder es

-- the key is that of the last entry
abbrev pub IsLast : Key → List Boxed → Type 0
IsLast k [] = ⊥
IsLast k (e ∷ []) = k ≡ key_of e
IsLast k (e ∷ f ∷ es) = IsLast k (f ∷ es)

-- the entries with a further one in its place
abbrev pub put : Boxed → List Boxed → List Boxed
put e [] = e ∷ []
put e (f ∷ fs) = if comes_before (key_of f) (key_of e) then f ∷ put e fs else e ∷ f ∷ fs

-- the entries without the first one of a key
abbrev pub taken : Key → List Boxed → List Boxed
taken k [] = []
taken k (f ∷ fs) = if is_key (key_of f) k then fs else f ∷ taken k fs
