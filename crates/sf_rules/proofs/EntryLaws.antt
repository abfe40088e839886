-- Entries by rising numbers: which are found, which pass a test, and which pass it beside others.
use Rattle.std.proofs.Common.{◌≡◌, ◌∙◌, ◌⊎◌, inl, inr, ℕ, Bool, true, false, not, ◌||◌, List, [], ◌∷◌, map, flat_map, filter, Some, nat_eq, refl, ap, subst, arith}
use Rattle.std.proofs.lemmas.Bool.{eqb-true}
use Rattle.std.proofs.lemmas.List.Elements.{All-contains, All-from_recursion}
use Rattle.std.proofs.lemmas.Map.Views.{Contains-from_lookup}
use Rattle.std.specs.List.{Contains, list_any}
use Rattle.std.specs.List.Sorted.{IsStrictlySortedBy}
use Rattle.std.specs.Map.{keys_of, lookup}
use Rattle.std.specs.Ordering.{nat_cmp}
use Rattle.sf_joins.proofs.Passed.{IsFoundIn, each-found}
use Rattle.sf_joins.proofs.PairLaws.{contains-cons, contains-filter, contains-flat, contains-here, contains-map, contains-there, filter-contains, flat-contains, map-contains}

-- ---- what is found under a number

none-in : {X : Type 0} (x : X) → Contains [] x → ⊥
none-in x c = absurd (omega (arith, c.1))

module _ {X : Type 0} where
  -- some member passes just where one is there that does
  pub any-in : (p : X → Bool) (xs : List X) → list_any p xs ≡ true → (x : X) × Contains xs x × (p x ≡ true)
  any-in p [] h = cc
  any-in p (x ∷ xs) h = by (p x) refl h (λ rest. any-in p xs rest)
    where
      by : (b : Bool) → p x ≡ b → b || list_any p xs ≡ true → (list_any p xs ≡ true → (y : X) × Contains xs y × (p y ≡ true)) → (y : X) × Contains (x ∷ xs) y × (p y ≡ true)
      by true is g later = (x, contains-here x xs, is)
      by false is g later = let y = later g in (y.0, contains-there x xs y.0 y.1, y.2)

  pub in-any : (p : X → Bool) (xs : List X) (y : X) → Contains xs y → p y ≡ true → list_any p xs ≡ true
  in-any p [] y c passes = absurd (omega (arith, c.1))
  in-any p (x ∷ xs) y c passes = by (contains-cons x xs y c) (λ rest. in-any p xs y rest passes)
    where
      right : (b : Bool) → list_any p xs ≡ true → b || list_any p xs ≡ true
      right true is = refl
      right false is = is

      by : (x ≡ y) ⊎ Contains xs y → (Contains xs y → list_any p xs ≡ true) → p x || list_any p xs ≡ true
      by (inl same) later = ap (λ b. b || list_any p xs) (ap p same ∙ passes)
      by (inr rest) later = right (p x) (later rest)

module _ {X : Type 0} where
  -- an entry is found under its number
  pub there : (es : List (ℕ × X)) (e : ℕ × X) → IsStrictlySortedBy nat_cmp (keys_of es) → Contains es e → lookup (nat_eq e.0) es ≡ Some e.1
  there es e rising c = All-contains (IsFoundIn es) es e (All-from_recursion (IsFoundIn es) es (each-found es rising)) c

  -- and what is found under one is there
  pub member : (es : List (ℕ × X)) (k : ℕ) (x : X) → lookup (nat_eq k) es ≡ Some x → Contains es (k, x)
  member es k x found = Contains-from_lookup {eq = nat_eq} eqb-true k x es found

  -- what is found and passes
  pub record Passes (p : ℕ × X → Bool) (es : List (ℕ × X)) : Type 0 where
    pub key : ℕ
    pub value : X
    pub found : lookup (nat_eq key) es ≡ Some value
    pub passes : p (key, value) ≡ true

  -- some entry passes just where one is found that does
  pub any-found : (p : ℕ × X → Bool) (es : List (ℕ × X)) → IsStrictlySortedBy nat_cmp (keys_of es) → list_any p es ≡ true → Passes p es
  any-found p es rising h =
      let e = any-in p es h in
      record { key = e.0.0; value = e.0.1; found = there es e.0 rising e.1; passes = e.2 }

  pub any-of : (p : ℕ × X → Bool) (es : List (ℕ × X)) (k : ℕ) (v : X) → lookup (nat_eq k) es ≡ Some v → p (k, v) ≡ true → list_any p es ≡ true
  any-of p es k v found passes = in-any p es (k, v) (member es k v found) passes

  -- where nothing is kept, nothing that is found passes
  pub none-passes : (p : ℕ × X → Bool) (es : List (ℕ × X)) (k : ℕ) (v : X) → filter p es ≡ [] → lookup (nat_eq k) es ≡ Some v → p (k, v) ≡ false
  none-passes p es k v none found = by (p (k, v)) refl
    where
      by : (b : Bool) → p (k, v) ≡ b → b ≡ false
      by false is = refl
      by true is = absurd (none-in (k, v) (subst (λ xs. Contains xs (k, v)) none (contains-filter p es (k, v) (member es k v found) is)))

-- ---- pairs

module _ {X : Type 0} (pair : ℕ × X → ℕ × X → Bool) where
  -- the numbers of entries that are a pair
  abbrev pub pairs_of : List (ℕ × X) → List (ℕ × X) → List (ℕ × ℕ)
  pairs_of es fs = flat_map (λ a. map (λ b. (a.0, b.0)) (filter (pair a) fs)) es

  -- two entries that are found are a pair
  pub record ArePair (es fs : List (ℕ × X)) (i j : ℕ) : Type 0 where
    pub a : X
    pub b : X
    pub first : lookup (nat_eq i) es ≡ Some a
    pub second : lookup (nat_eq j) fs ≡ Some b
    pub is : pair (i, a) (j, b) ≡ true

  pub pair-found : (es fs : List (ℕ × X)) (i j : ℕ) → IsStrictlySortedBy nat_cmp (keys_of es) → IsStrictlySortedBy nat_cmp (keys_of fs) → Contains (pairs_of es fs) (i, j) → ArePair es fs i j
  pair-found es fs i j rising others c =
      let a = flat-contains (λ (e : ℕ × X). map (λ (f : ℕ × X). (e.0, f.0)) (filter (pair e) fs)) es (i, j) c in
      let b = map-contains (λ (f : ℕ × X). (a.0.0, f.0)) (filter (pair a.0) fs) (i, j) a.2 in
      let kept = filter-contains (pair a.0) fs b.0 b.1 in
      subst (λ (p : ℕ × ℕ). ArePair es fs p.0 p.1) b.2
      (record { a = a.0.1; b = b.0.1; first = there es a.0 rising a.1; second = there fs b.0 others kept.0; is = kept.1 })

  pub pair-of : (es fs : List (ℕ × X)) (i j : ℕ) → ArePair es fs i j → Contains (pairs_of es fs) (i, j)
  pair-of es fs i j p =
      let a : ℕ × X = (i, p.a) in
      let b : ℕ × X = (j, p.b) in
      contains-flat (λ (e : ℕ × X). map (λ (f : ℕ × X). (e.0, f.0)) (filter (pair e) fs)) es a (i, j) (member es i p.a p.first)
      (contains-map (λ (f : ℕ × X). (i, f.0)) (filter (pair a) fs) b (contains-filter (pair a) fs b (member fs j p.b p.second) p.is))

  -- ---- entries without a partner

  abbrev pub lacks : List (ℕ × X) → ℕ × X → Bool
  lacks fs a = not (list_any (pair a) fs)

  -- the numbers of entries that have none
  abbrev pub alone_of : List (ℕ × X) → List (ℕ × X) → List ℕ
  alone_of es fs = keys_of (filter (lacks fs) es)

  pub alone-found : (es fs : List (ℕ × X)) (i : ℕ) → IsStrictlySortedBy nat_cmp (keys_of es) → Contains (alone_of es fs) i → (a : X) × (lookup (nat_eq i) es ≡ Some a) × (lacks fs (i, a) ≡ true)
  alone-found es fs i rising c =
      let e = map-contains (λ (e : ℕ × X). e.0) (filter (lacks fs) es) i c in
      let kept = filter-contains (lacks fs) es e.0 e.1 in
      subst (λ (k : ℕ). (a : X) × (lookup (nat_eq k) es ≡ Some a) × (lacks fs (k, a) ≡ true)) e.2
      (e.0.1, there es e.0 rising kept.0, kept.1)

  pub alone-of : (es fs : List (ℕ × X)) (i : ℕ) (a : X) → lookup (nat_eq i) es ≡ Some a → lacks fs (i, a) ≡ true → Contains (alone_of es fs) i
  alone-of es fs i a found is = contains-map (λ (e : ℕ × X). e.0) (filter (lacks fs) es) (i, a) (contains-filter (lacks fs) es (i, a) (member es i a found) is)
