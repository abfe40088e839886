-- How many columns, values and features there can be: numbers that differ, below an end or among others.
use Rattle.std.proofs.Common.{◌≡◌, ℕ, zero, suc, ◌+◌, ◌<◌, ◌≤◌, Bool, true, false, cond, ◌||◌, List, [], ◌∷◌, map, length, Some, nat_eq, refl, sym, ap, subst, ◌∙◌, arith, inl, inr}
use Rattle.std.specs.Prelude.{◌⊎◌, IsSomeAnd, find}
use Rattle.std.specs.List.{list_any, AllByRecursion, IsDistinct as AreDistinct}
use Rattle.std.specs.List.Sorted.{IsStrictlySortedBy}
use Rattle.std.specs.Map.{keys_of}
use Rattle.std.specs.Ordering.{nat_cmp, eq_by_cmp}
use Rattle.std.specs.Cmp.{nat_eq_equiv}
use Rattle.std.specs.declared.cmp.Ordering.TheVariants.{Less, Equal, Greater}
use Rattle.std.proofs.lemmas.Bool.{ltb-true, eqb-true, eq-eqb}
use Rattle.std.proofs.lemmas.Bool.Decides.{nat_tests}
use Rattle.std.proofs.lemmas.Map.Keys.{IsDistinct-cons}
use Rattle.std.proofs.lemmas.Map.Steps.{length-le_from_distinct_below, list_any_congr}
use Rattle.std.proofs.lemmas.Map.Made.{length-le_from_is_member}
use Rattle.sf_features.specs.Columns.{IsDistinct, numbered}
use Rattle.sf_features.specs.Features.{FeatureContent}
use Rattle.sf_layers.specs.Content.{LayerContent}
use Rattle.sf_layers.specs.WellFormed.{IsColumn, IsIssued, IsLayer, IsValue}
use Rattle.sf_features.specs.declared.column.Column.{Column}
use Rattle.sf_features.specs.declared.attr_value.AttrValue.{AttrValue}

pub or_true : (a b : Bool) → (a || b) ≡ true → (a ≡ true) ⊎ (b ≡ true)
or_true true b h = inl refl
or_true false b h = inr h

pub below_from_cmp : (m n : ℕ) → nat_cmp m n ≡ Less → m < n
below_from_cmp m n h = by_test (nat_eq m n) _ refl h
  where
    by_test : (e : Bool) (l : Bool) → l ≡ Rattle.std.specs.Prelude.nat_lt m n → cond l Less (cond e Equal Greater) ≡ Less → m < n
    by_test e true is h = ltb-true m n (sym is)
    by_test true false is h = absurd cc
    by_test false false is h = absurd cc

-- rising numbers from low to below end
pub rising-count : (low end : ℕ) (ks : List ℕ) → low ≤ end → AllByRecursion (λ k. (low ≤ k) × (k < end)) ks → IsStrictlySortedBy nat_cmp ks → low + length ks ≤ end
unfolding IsStrictlySortedBy
rising-count low end [] le within rising = omega arith
rising-count low end (k ∷ ks) le within rising =
    let later = rising-count (suc k) end ks (omega (arith, within.0)) (above ks rising.0 within.1) rising.1 in
    omega (arith, later, within.0)
  where
    above : (ys : List ℕ) → AllByRecursion (λ y. nat_cmp k y ≡ Less) ys → AllByRecursion (λ y. (low ≤ y) × (y < end)) ys → AllByRecursion (λ y. (suc k ≤ y) × (y < end)) ys
    above [] p q = tt
    above (y ∷ ys) p q = let b = below_from_cmp k y p.0 in ((omega (arith, b), q.0.1), above ys p.1 q.1)

-- one notion of distinct numbers in the words of the other
apart : (x : ℕ) (xs : List ℕ) → list_any (nat_eq x) xs ≡ false → AllByRecursion (λ y. nat_eq x y ≡ false) xs
apart x [] h = tt
apart x (y ∷ ys) h = by_test (nat_eq x y) refl (apart x ys) h
  where
    by_test : (b : Bool) → b ≡ nat_eq x y → (list_any (nat_eq x) ys ≡ false → AllByRecursion (λ z. nat_eq x z ≡ false) ys) → (b || list_any (nat_eq x) ys) ≡ false
        → (nat_eq x y ≡ false) × AllByRecursion (λ z. nat_eq x z ≡ false) ys
    by_test true is later h = absurd cc
    by_test false is later h = (sym is, later h)

are_distinct : (xs : List ℕ) → IsDistinct nat_eq xs → AreDistinct nat_eq xs
unfolding AreDistinct
are_distinct [] h = tt
are_distinct (x ∷ xs) h = (apart x xs h.0, are_distinct xs h.1)

-- distinct issued numbers are fewer than their end
pub issued-count : (end : ℕ) (ns : List ℕ) → 1 ≤ end → AllByRecursion (IsIssued end) ns → IsDistinct nat_eq ns → length ns < end
issued-count end ns some issued distinct =
    let more = length-le_from_distinct_below (0 ∷ ns) end (IsDistinct-cons nat_eq 0 ns (no_zero ns issued) (are_distinct ns distinct)) (below (0 ∷ ns) ((omega arith), upper ns issued)) in
    omega (arith, more)
  where
    no_zero : (ns : List ℕ) → AllByRecursion (IsIssued end) ns → AllByRecursion (λ y. nat_eq 0 y ≡ false) ns
    no_zero [] h = tt
    no_zero (zero ∷ ns) h = absurd (omega (arith, h.0.0))
    no_zero ((suc n) ∷ ns) h = (apart_from_zero, no_zero ns h.1)
      where
        apart_from_zero : nat_eq 0 (suc n) ≡ false
        apart_from_zero = grind (arith, nat_tests)

    upper : (ns : List ℕ) → AllByRecursion (IsIssued end) ns → AllByRecursion (λ y. y < end) ns
    upper [] h = tt
    upper (n ∷ ns) h = (h.0.1, upper ns h.1)

    below : (ns : List ℕ) → AllByRecursion (λ y. y < end) ns → (q : ℕ) → list_any (nat_eq q) ns ≡ true → q < end
    below [] h q is = absurd cc
    below (n ∷ ns) h q is = elim (or_true (nat_eq q n) (list_any (nat_eq q) ns) is) [
      | inl here ↦ subst (λ m. m < end) (sym (eqb-true q n here)) h.0
      | inr later ↦ below ns h.1 q later
    ]

-- the number of a column that is there
column-there : (columns : List Column) (n : ℕ) (P : Column → Type 0) → IsSomeAnd (numbered columns n) P → list_any (nat_eq n) (map (λ column. column.number) columns) ≡ true
column-there [] n P h = absurd h
column-there (c ∷ cs) n P h = by_test (nat_eq c.number n) refl (column-there cs n P) h
  where
    by_test : (b : Bool) → b ≡ nat_eq c.number n → (IsSomeAnd (numbered cs n) P → list_any (nat_eq n) (map (λ column. column.number) cs) ≡ true) → IsSomeAnd (cond b (Some c) (numbered cs n)) P
        → (nat_eq n c.number || list_any (nat_eq n) (map (λ column. column.number) cs)) ≡ true
    by_test true is later h = ap (λ b. b || list_any (nat_eq n) (map (λ column. column.number) cs)) (eq-eqb n c.number (sym (eqb-true c.number n (sym is))))
    by_test false is later h = ap (λ b. nat_eq n c.number || b) (later h) ∙ or_last (nat_eq n c.number)
      where
        or_last : (b : Bool) → (b || true) ≡ true
        or_last true = refl
        or_last false = refl

rising_distinct : (ks : List ℕ) → IsStrictlySortedBy nat_cmp ks → AreDistinct nat_eq ks
unfolding IsStrictlySortedBy AreDistinct
rising_distinct [] h = tt
rising_distinct (k ∷ ks) h = (others ks h.0, rising_distinct ks h.1)
  where
    others : (ys : List ℕ) → AllByRecursion (λ y. nat_cmp k y ≡ Less) ys → AllByRecursion (λ y. nat_eq k y ≡ false) ys
    others [] p = tt
    others (y ∷ ys) p = (differs (nat_eq k y) refl, others ys p.1)
      where
        differs : (b : Bool) → b ≡ nat_eq k y → nat_eq k y ≡ false
        differs true is = let same = eqb-true k y (sym is) in let less = below_from_cmp k y p.0 in absurd (omega (arith, same, less))
        differs false is = sym is

-- a feature has at most as many values as its layer has columns
pub value-count : (columns : List Column) (values : List (ℕ × AttrValue)) → IsStrictlySortedBy nat_cmp (keys_of values) → AllByRecursion (IsValue columns) values
    → length values ≤ length columns
value-count columns values rising all =
    let le = length-le_from_is_member nat_eq_equiv (keys_of values) (map (λ column. column.number) columns) (rising_distinct (keys_of values) rising) (there values all) in
    omega (arith, le, length_keys values, length_numbers columns)
  where
    there : (vs : List (ℕ × AttrValue)) → AllByRecursion (IsValue columns) vs → (q : ℕ) → list_any (nat_eq q) (keys_of vs) ≡ true → list_any (nat_eq q) (map (λ column. column.number) columns) ≡ true
    there [] h q is = absurd cc
    there (v ∷ vs) h q is = elim (or_true (nat_eq q v.0) (list_any (nat_eq q) (keys_of vs)) is) [
      | inl here ↦ list_any_congr nat_eq_equiv q v.0 (map (λ column. column.number) columns) here ∙ column-there columns v.0 _ h.0
      | inr later ↦ there vs h.1 q later
    ]

    length_keys : (vs : List (ℕ × AttrValue)) → length (keys_of vs) ≡ length vs
    length_keys [] = refl
    length_keys (v ∷ vs) = ap suc (length_keys vs)

    length_numbers : (cs : List Column) → length (map (λ column. column.number) cs) ≡ length cs
    length_numbers [] = refl
    length_numbers (c ∷ cs) = ap suc (length_numbers cs)

-- a layer has fewer features and fewer columns than its counters say
pub feature-count : (l : LayerContent) → IsLayer l → length l.features < l.next_id
feature-count l is =
    let bound = rising-count 1 l.next_id (keys_of l.features) is.next_id.0 is.ids is.rising in
    omega (arith, bound, length_keys l.features)
  where
    length_keys : (fs : List (ℕ × FeatureContent)) → length (keys_of fs) ≡ length fs
    length_keys [] = refl
    length_keys (f ∷ fs) = ap suc (length_keys fs)

pub column-count : (l : LayerContent) → IsLayer l → length l.columns < l.next_column
column-count l is =
    let bound = issued-count l.next_column (map (λ c. c.number) l.columns) is.next_column.0 (numbers l.columns is.columns) is.column_numbers in
    omega (arith, bound, length_numbers l.columns)
  where
    numbers : (cs : List Column) → AllByRecursion (IsColumn l.next_column) cs → AllByRecursion (IsIssued l.next_column) (map (λ c. c.number) cs)
    numbers [] all = tt
    numbers (c ∷ cs) all = (all.0.1, numbers cs all.1)

    length_numbers : (cs : List Column) → length (map (λ c. c.number) cs) ≡ length cs
    length_numbers [] = refl
    length_numbers (c ∷ cs) = ap suc (length_numbers cs)
