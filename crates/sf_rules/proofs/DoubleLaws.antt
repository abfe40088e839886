-- Of values in order, the first two that are one are neighbours.
use Rattle.std.proofs.Common.{◌≡◌, ◌∙◌, ◌⊎◌, inl, inr, ℕ, suc, ◌<◌, ◌≤◌, ◌+◌, Bool, true, false, ◌&&◌, List, [], ◌∷◌, ◌++◌, append_assoc, drop, get_or, length, Option, None, Some, IsTrue, IsSomeAnd, nat_eq, refl, ap, sym, subst, arith}
use Rattle.std.specs.Prelude.{if◌then◌else◌}
use Rattle.std.specs.declared.cmp.Ordering.{Ordering}
use Rattle.std.specs.declared.cmp.Ordering.TheVariants.{Less, Equal, Greater}
use Rattle.std.specs.List.{AllByRecursion, Contains, IsDistinct}
use Rattle.std.specs.List.Sorted.{IsPermutation, IsSorted, IsStrictlySortedBy}
use Rattle.std.specs.Map.{keys_of, lookup}
use Rattle.std.specs.Ordering.{is_lt, nat_cmp, ordering_reverse, ordering_then}
use Rattle.std.proofs.lemmas.Bool.{eq-eqb}
use Rattle.std.proofs.lemmas.Bool.Decides.{nat_tests}
use Rattle.std.proofs.lemmas.Cmp.{tied_itself}
use Rattle.std.proofs.lemmas.List.{drop_all, drop_more}
use Rattle.std.proofs.lemmas.List.Elements.{All-contains, All-from_recursion, Contains-append_cases, Contains-append_left, Contains-append_right}
use Rattle.std.proofs.lemmas.List.Sorted.{Contains-permutation, IsPermutation-sym}
use Rattle.std.proofs.lemmas.Map.Keys.{IsDistinct-IsPermutation}
use Rattle.sf_features.specs.declared.attr_value.AttrValue.{AttrValue}
use Rattle.sf_features.specs.declared.column.Column.{Column}
use Rattle.sf_features.specs.declared.column_type.ColumnType.{ColumnType}
use Rattle.sf_features.specs.Features.{FeatureContent, value_in}
use Rattle.sf_features.specs.Order.{value_cmp}
use Rattle.sf_features.specs.Values.{is_of_type, same_value}
use Rattle.sf_features.proofs.SameLaws.{same-itself, same-value}
use Rattle.sf_features.proofs.ValueOrder.{one_value}
use Rattle.sf_features.proofs.ValueTotal.{values_total}
use Rattle.sf_layers.specs.Content.{LayerContent, feature_of}
use Rattle.sf_layers.specs.ValueIndexes.{key, key_cmp}
use Rattle.sf_layers.specs.WellFormed.{IsFeature, IsLayer, IsValue}
use Rattle.sf_joins.proofs.Passed.{value-found}
use Rattle.sf_joins.proofs.PairLaws.{contains-cons, contains-flat, contains-here, contains-there, flat-contains}
use Rattle.sf_rules.specs.declared.breaks.Break.{Break}
use Rattle.sf_rules.specs.declared.breaks.Break.TheVariants.{Alone, Pair}
use Rattle.sf_rules.specs.declared.digested.Digested.{Digested}
use Rattle.sf_rules.specs.declared.rule.Demand.TheVariants.{Unique}
use Rattle.sf_rules.specs.Breaks.{is_before, least_from}
use Rattle.sf_rules.specs.DigestOrder.{digested_total}
use Rattle.sf_rules.specs.Digests.{digest_of, digested, digested_cmp}
use Rattle.sf_rules.specs.Doubles.{double_after, doubles_from, key_with, keys_in}
use Rattle.sf_rules.specs.Holds.{HasValue, IsValueBreak}
use Rattle.sf_rules.specs.Rules.{breaks_in, first_of}
use Rattle.sf_rules.proofs.EntryLaws.{member, there}
use Rattle.sf_rules.proofs.HoldsLaws.{first-least, unique-begins, unique-from, unique-to}
use Rattle.sf_rules.proofs.LeastLaws.{least-append, least-begins}

none-in : {X : Type 0} (x : X) → Contains [] x → ⊥
none-in x c = absurd (omega (arith, c.1))

-- ---- orders of two keys

-- one that is below another is below it in value, or of a value that is equal in order
not-above : (r s : Ordering) → ordering_then r s ≡ Less → (r ≡ Less) ⊎ (r ≡ Equal)
not-above Less s h = inl refl
not-above Equal s h = inr refl
not-above Greater s h = cc

-- where neither of two is above the other
both-equal : (r s : Ordering) → r ≡ ordering_reverse s → (r ≡ Less) ⊎ (r ≡ Equal) → (s ≡ Less) ⊎ (s ≡ Equal) → r ≡ Equal
both-equal Equal s back h k = refl
both-equal Less Less back h k = cc
both-equal Less Equal back h k = cc
both-equal Less Greater back h (inl k) = cc
both-equal Less Greater back h (inr k) = cc
both-equal Greater s back (inl h) k = cc
both-equal Greater s back (inr h) k = cc

equal-then : (r s : Ordering) → r ≡ Equal → ordering_then r s ≡ s
equal-then r s h = ap (λ t. ordering_then t s) h

below-id : (i j : ℕ) → nat_cmp i j ≡ Less → i < j
below-id i j h = grind (arith, nat_tests)

equal-id : (i j : ℕ) → nat_cmp i j ≡ Equal → nat_eq i j ≡ true
equal-id i j h = grind (arith, nat_tests)

second-equal : (r s : Ordering) → ordering_then r s ≡ Equal → s ≡ Equal
second-equal Less s h = cc
second-equal Equal s h = h
second-equal Greater s h = cc

-- a number that is not above another, which is not above it
squeezed : (m n : ℕ) → (nat_cmp m n ≡ Less) ⊎ (nat_cmp m n ≡ Equal) → (nat_cmp n m ≡ Less) ⊎ (nat_cmp n m ≡ Equal) → m ≡ n
squeezed m n (inl h) (inl k) = grind (arith, nat_tests)
squeezed m n (inl h) (inr k) = grind (arith, nat_tests)
squeezed m n (inr h) k = grind (arith, nat_tests)

-- between two of one number there are only those of the same, in the order of values
pub record AreOfOne (a c b : Digested) : Type 0 where
  pub digest : a.digest ≡ c.digest
  pub less : key_cmp a.key c.key ≡ Less
  pub up : (key_cmp c.key b.key ≡ Less) ⊎ (c.key ≡ b.key)

of-one : (a c b : Digested) → a.digest ≡ b.digest → digested_cmp a c ≡ Less → (digested_cmp c b ≡ Less) ⊎ (c ≡ b) → AreOfOne a c b
of-one a c b same less up = record {
  digest = digest;
  less = sym (equal-then (nat_cmp a.digest c.digest) (key_cmp a.key c.key) (tied a.digest c.digest digest)) ∙ less;
  up = by up;
}
  where
    tied : (m n : ℕ) → m ≡ n → nat_cmp m n ≡ Equal
    tied m n is = grind (arith, nat_tests)

    high : (digested_cmp c b ≡ Less) ⊎ (c ≡ b) → (nat_cmp c.digest a.digest ≡ Less) ⊎ (nat_cmp c.digest a.digest ≡ Equal)
    high (inl h) = subst (λ n. (nat_cmp c.digest n ≡ Less) ⊎ (nat_cmp c.digest n ≡ Equal)) (sym same) (not-above (nat_cmp c.digest b.digest) (key_cmp c.key b.key) h)
    high (inr h) = inr (tied c.digest a.digest (ap (λ d. d.digest) h ∙ sym same))

    digest : a.digest ≡ c.digest
    digest = squeezed a.digest c.digest (not-above (nat_cmp a.digest c.digest) (key_cmp a.key c.key) less) (high up)

    by : (digested_cmp c b ≡ Less) ⊎ (c ≡ b) → (key_cmp c.key b.key ≡ Less) ⊎ (c.key ≡ b.key)
    by (inl h) = inl (sym (equal-then (nat_cmp c.digest b.digest) (key_cmp c.key b.key) (tied c.digest b.digest (sym digest ∙ same))) ∙ h)
    by (inr h) = inr (ap (λ d. d.key) h)

-- ---- keys that rise

-- each key is below the next
abbrev pub Ascends : Digested → List Digested → Type 0
Ascends last [] = Unit {0}
Ascends last (next ∷ rest) = (digested_cmp last next ≡ Less) × Ascends next rest

abbrev pub AllAscend : List Digested → Type 0
AllAscend [] = Unit {0}
AllAscend (first ∷ rest) = Ascends first rest

abbrev pub one_id : Digested → Digested → Bool
one_id a b = nat_eq a.key.id b.key.id

-- what is not below, and is not the same feature
rises : (a b : Digested) → is_lt (digested_cmp b a) ≡ false → one_id a b ≡ false → digested_cmp a b ≡ Less
rises a b h apart = by (digested_cmp b a) refl (digested_cmp a b) refl
  where
    by : (r : Ordering) → digested_cmp b a ≡ r → (s : Ordering) → digested_cmp a b ≡ s → s ≡ Less
    by Less is s js = let wrong : true ≡ false = ap is_lt (sym is) ∙ h in cc
    by Equal is s js =
        let back : digested_cmp a b ≡ Equal = digested_total.antisymm a b ∙ ap ordering_reverse is in
        let wrong : true ≡ false = sym (equal-id a.key.id b.key.id (second-equal (value_cmp a.key.value b.key.value) (nat_cmp a.key.id b.key.id) (second-equal (nat_cmp a.digest b.digest) (key_cmp a.key b.key) back))) ∙ apart in cc
    by Greater is s js = sym js ∙ digested_total.antisymm a b ∙ ap ordering_reverse is

one-later : {X : Type 0} (x : X) (xs : List X) (k : ℕ) (d : X) → get_or (x ∷ xs) (k + 1) d ≡ get_or xs k d
one-later x xs k d = ap (λ n. get_or (x ∷ xs) n d) (plus-one k)
  where
    plus-one : (n : ℕ) → n + 1 ≡ suc n
    plus-one n = omega arith

-- keys in order whose features differ
ascends : (a : Digested) (keys : List Digested) → IsSorted digested_cmp (a ∷ keys) → IsDistinct one_id (a ∷ keys) → Ascends a keys
unfolding IsDistinct
ascends a [] sorted distinct = tt
ascends a (b ∷ keys) sorted distinct = (
  rises a b (sorted 0 a (omega arith) (omega arith)) distinct.0.0,
  ascends b keys
      (λ k d from to.
      ap (λ x. is_lt (digested_cmp x (get_or (b ∷ keys) k d))) (sym (one-later a (b ∷ keys) (k + 1) d))
      ∙ ap (λ x. is_lt (digested_cmp (get_or (a ∷ b ∷ keys) (k + 1 + 1) d) x)) (sym (one-later a (b ∷ keys) k d))
      ∙ sorted (k + 1) d (omega (arith, from)) (omega (arith, to)))
      distinct.1,
)

pub all-ascend : (keys : List Digested) → IsSorted digested_cmp keys → IsDistinct one_id keys → AllAscend keys
all-ascend [] sorted distinct = tt
all-ascend (a ∷ keys) sorted distinct = ascends a keys sorted distinct

-- a key behind another is above it
above : (a : Digested) (keys : List Digested) (b : Digested) → Ascends a keys → Contains keys b → digested_cmp a b ≡ Less
above a [] b h c = absurd (none-in b c)
above a (x ∷ keys) b h c = by (contains-cons x keys b c) (λ later. above x keys b h.1 later)
  where
    by : (x ≡ b) ⊎ Contains keys b → (Contains keys b → digested_cmp x b ≡ Less) → digested_cmp a b ≡ Less
    by (inl same) rest = subst (λ y. digested_cmp a y ≡ Less) same h.0
    by (inr later) rest = digested_total.trans a x b h.0 (rest later)

-- ---- keys of features

module _ (number : ℕ) (layer : LayerContent) (fits : IsLayer layer) where
  -- a key is of a feature, its value of some type, and its number that of the value
  record IsKey (k : Digested) : Type 0 where
    has : HasValue number layer k.key.id k.key.value
    typed : (t : ColumnType) × (is_of_type t k.key.value ≡ true)
    digest : k.digest ≡ digest_of k.key.value

  typed-in : (entries : List (ℕ × AttrValue)) (value : AttrValue) → AllByRecursion (IsValue layer.columns) entries → lookup (nat_eq number) entries ≡ Some value
      → (t : ColumnType) × (is_of_type t value ≡ true)
  typed-in entries value all found =
      let of = All-contains (IsValue layer.columns) entries (number, value) (All-from_recursion (IsValue layer.columns) entries all) (member entries number value found) in
      by _ of
    where
      by : (o : Option Column) → IsSomeAnd o (λ column. IsTrue (is_of_type column.column_type value)) → (t : ColumnType) × (is_of_type t value ≡ true)
      by None h = absurd h
      by (Some column) h = (column.column_type, h)

  feature-fits : (id : ℕ) (feature : FeatureContent) → feature_of layer id ≡ Some feature → IsFeature layer.kind layer.columns feature
  feature-fits id feature found = value-found (IsFeature layer.kind layer.columns) (nat_eq id) feature layer.features fits.features found

  is-key : (id : ℕ) (value : AttrValue) → HasValue number layer id value → IsKey (digested value id)
  is-key id value has = record { has = has; typed = typed-in has.0.values value (feature-fits id has.0 has.1).values has.2; digest = refl }

  key-from : (k : Digested) → Contains (keys_in number layer.features) k → IsKey k
  key-from k c =
      let e = flat-contains (λ (entry : ℕ × FeatureContent). key_with entry.0 (value_in number entry.1)) layer.features k c in
      by e.0.0 e.0.1 (there layer.features e.0 fits.rising e.1) (value_in number e.0.1) refl e.2
    where
      by : (id : ℕ) (feature : FeatureContent) → feature_of layer id ≡ Some feature → (o : Option AttrValue) → value_in number feature ≡ o → Contains (key_with id o) k → IsKey k
      by id feature stands None is d = absurd (none-in k d)
      by id feature stands (Some value) is d = at (contains-cons (digested value id) [] k d)
        where
          at : (digested value id ≡ k) ⊎ Contains [] k → IsKey k
          at (inl same) = subst IsKey same (is-key id value (feature, stands, is))
          at (inr wrong) = absurd (none-in k wrong)

  key-to : (id : ℕ) (value : AttrValue) → HasValue number layer id value → Contains (keys_in number layer.features) (digested value id)
  key-to id value has =
      contains-flat (λ (entry : ℕ × FeatureContent). key_with entry.0 (value_in number entry.1)) layer.features (id, has.0) (digested value id) (member layer.features id has.0 has.1)
      (subst (λ o. Contains (key_with id o) (digested value id)) (sym has.2) (contains-here (digested value id) []))

  -- the keys of different features
  apart-of : (i : ℕ) (k : Digested) (es : List (ℕ × FeatureContent)) → k.key.id ≡ i → AllByRecursion (λ j. nat_cmp i j ≡ Less) (keys_of es) → AllByRecursion (λ b. one_id k b ≡ false) (keys_in number es)
  apart-of i k [] same h = tt
  apart-of i k (e ∷ es) same h = by (value_in number e.1) (apart-of i k es same h.1)
    where
      differ : (m n : ℕ) → m ≡ i → nat_cmp i n ≡ Less → nat_eq m n ≡ false
      differ m n is less = grind (arith, nat_tests)

      by : (o : Option AttrValue) → AllByRecursion (λ b. one_id k b ≡ false) (keys_in number es) → AllByRecursion (λ b. one_id k b ≡ false) (key_with e.0 o ++ keys_in number es)
      by None rest = rest
      by (Some value) rest = (differ k.key.id e.0 same h.0, rest)

  distinct-in : (es : List (ℕ × FeatureContent)) → IsStrictlySortedBy nat_cmp (keys_of es) → IsDistinct one_id (keys_in number es)
  unfolding IsDistinct IsStrictlySortedBy
  distinct-in [] h = tt
  distinct-in (e ∷ es) h = by (value_in number e.1) (distinct-in es h.1)
    where
      by : (o : Option AttrValue) → IsDistinct one_id (keys_in number es) → IsDistinct one_id (key_with e.0 o ++ keys_in number es)
      by None rest = rest
      by (Some value) rest = (apart-of e.0 (digested value e.0) es refl h.0, rest)

  -- ---- neighbours

  -- two neighbours that have one value
  one-value : (a c b : Digested) → IsKey a → IsKey c → AreOfOne a c b → a.key.value ≡ b.key.value → a.key.value ≡ c.key.value
  one-value a c b is js one same = by one.up
    where
      low : (value_cmp a.key.value c.key.value ≡ Less) ⊎ (value_cmp a.key.value c.key.value ≡ Equal)
      low = not-above (value_cmp a.key.value c.key.value) (nat_cmp a.key.id c.key.id) one.less

      high : key_cmp c.key b.key ≡ Less → (value_cmp c.key.value a.key.value ≡ Less) ⊎ (value_cmp c.key.value a.key.value ≡ Equal)
      high h =
          subst (λ v. (value_cmp c.key.value v ≡ Less) ⊎ (value_cmp c.key.value v ≡ Equal)) (sym same) (not-above (value_cmp c.key.value b.key.value) (nat_cmp c.key.id b.key.id) h)

      by : (key_cmp c.key b.key ≡ Less) ⊎ (c.key ≡ b.key) → a.key.value ≡ c.key.value
      by (inl h) =
          one_value is.typed.0 js.typed.0 a.key.value c.key.value is.typed.1 js.typed.1
          (both-equal (value_cmp a.key.value c.key.value) (value_cmp c.key.value a.key.value) (values_total.antisymm a.key.value c.key.value) low (high h))
      by (inr h) = same ∙ ap (λ k. k.value) (sym h)

  up-to : (a c b : Digested) → a.key.value ≡ c.key.value → a.key.value ≡ b.key.value → (key_cmp c.key b.key ≡ Less) ⊎ (c.key ≡ b.key) → c.key.id ≤ b.key.id
  up-to a c b is js (inl h) =
      let equal : value_cmp c.key.value b.key.value ≡ Equal = ap (λ v. value_cmp v b.key.value) (sym is ∙ js) ∙ tied_itself values_total b.key.value in
      not-over (below-id c.key.id b.key.id (sym (equal-then (value_cmp c.key.value b.key.value) (nat_cmp c.key.id b.key.id) equal) ∙ h))
    where
      not-over : c.key.id < b.key.id → c.key.id ≤ b.key.id
      not-over less = omega (arith, less)
  up-to a c b is js (inr h) = same (ap (λ k. k.id) h)
    where
      same : c.key.id ≡ b.key.id → c.key.id ≤ b.key.id
      same is = omega (arith, is)

  and_of : (p q : Bool) → p ≡ true → q ≡ true → p && q ≡ true
  and_of true q h k = k
  and_of false q h k = cc

  and_true : (p q : Bool) → p && q ≡ true → q ≡ true
  and_true true q h = h
  and_true false q h = cc

  -- the neighbour of a key makes a pair with it that reaches no farther than one that it is to make
  record IsNear (last : Option Digested) (keys : List Digested) (a b : Digested) : Type 0 where
    id : ℕ
    found : Contains (doubles_from last keys) (Pair a.key.id id)
    near : id ≤ b.key.id

  next-of : (last : Option Digested) (a : Digested) (rest : List Digested) (b : Digested) → Ascends a rest → ((k : Digested) → Contains rest k → IsKey k) → IsKey a
      → Contains rest b → a.digest ≡ b.digest → a.key.value ≡ b.key.value → IsNear last (a ∷ rest) a b
  next-of last a [] b h each is there number_same same = absurd (none-in b there)
  next-of last a (c ∷ rest) b h each is there number_same same = record {
    id = c.key.id;
    found = Contains-append_right (double_after last a) (doubles_from (Some a) (c ∷ rest)) (Pair a.key.id c.key.id)
        (Contains-append_left (double_after (Some a) c) (doubles_from (Some c) rest) (Pair a.key.id c.key.id)
        (subst (λ t. let ps : List Break = if t then Pair a.key.id c.key.id ∷ [] else [] in Contains ps (Pair a.key.id c.key.id))
        (sym (and_of (nat_eq a.digest c.digest) (same_value a.key.value c.key.value) (eq-eqb a.digest c.digest of.digest) (ap (same_value a.key.value) (sym one) ∙ same-itself a.key.value)))
        (contains-here (Pair a.key.id c.key.id) [])));
    near = up-to a c b one same of.up;
  }
    where
      up : (digested_cmp c b ≡ Less) ⊎ (c ≡ b)
      up = by (contains-cons c rest b there)
        where
          by : (c ≡ b) ⊎ Contains rest b → (digested_cmp c b ≡ Less) ⊎ (c ≡ b)
          by (inl is_it) = inr is_it
          by (inr later) = inl (above c rest b h.1 later)

      of : AreOfOne a c b
      of = of-one a c b number_same h.0 up

      one : a.key.value ≡ c.key.value
      one = one-value a c b is (each c (contains-here c rest)) of same

  neighbour : (last : Option Digested) (keys : List Digested) (a b : Digested) → AllAscend keys → ((k : Digested) → Contains keys k → IsKey k)
      → Contains keys a → Contains keys b → digested_cmp a b ≡ Less → a.digest ≡ b.digest → a.key.value ≡ b.key.value → IsNear last keys a b
  neighbour last [] a b h each c d less number_same same = absurd (none-in a c)
  neighbour last (x ∷ rest) a b h each c d less number_same same =
      by (contains-cons x rest a c) (contains-cons x rest b d) (λ first second. neighbour (Some x) rest a b (on rest h) (λ k e. each k (contains-there x rest k e)) first second less number_same same)
    where
      itself : (p q : Digested) → digested_cmp p q ≡ Less → p ≡ q → ⊥
      itself p q below is = let wrong : Less ≡ Equal = sym below ∙ ap (digested_cmp p) (sym is) ∙ tied_itself digested_total p in cc

      turned : (p q : Digested) → digested_cmp p q ≡ Less → digested_cmp q p ≡ Less → ⊥
      turned p q below back = let wrong : Less ≡ Greater = sym below ∙ digested_total.antisymm p q ∙ ap ordering_reverse back in cc

      on : (keys : List Digested) → Ascends x keys → AllAscend keys
      on [] g = tt
      on (y ∷ ys) g = g.1

      by : (x ≡ a) ⊎ Contains rest a → (x ≡ b) ⊎ Contains rest b → (Contains rest a → Contains rest b → IsNear (Some x) rest a b) → IsNear last (x ∷ rest) a b
      by (inl here) (inl same_place) behind = absurd (itself a b less (sym here ∙ same_place))
      by (inl here) (inr later) behind =
          subst (λ k. IsNear last (x ∷ rest) k b) here
          (next-of last x rest b h (λ k e. each k (contains-there x rest k e)) (each x (contains-here x rest)) later (ap (λ k. k.digest) here ∙ number_same) (ap (λ k. k.key.value) here ∙ same))
      by (inr later) (inl here) behind = absurd (turned a b less (subst (λ k. digested_cmp k a ≡ Less) here (above x rest a h later)))
      by (inr first) (inr second) behind =
          let found = behind first second in
          record {
            id = found.id;
            found = Contains-append_right (double_after last x) (doubles_from (Some x) rest) (Pair a.key.id found.id) found.found;
            near = found.near;
          }

  -- ---- what neighbours are

  is-break : (a b : Digested) → IsKey a → IsKey b → digested_cmp a b ≡ Less → same_value a.key.value b.key.value ≡ true → IsValueBreak Unique number layer (Pair a.key.id b.key.id)
  is-break a b is js less same = (
    below-id a.key.id b.key.id (sym (equal-then (value_cmp a.key.value b.key.value) (nat_cmp a.key.id b.key.id) equal) ∙ in_key),
    (a.key.value, is.has, subst (HasValue number layer b.key.id) (sym one) js.has),
  )
    where
      one : a.key.value ≡ b.key.value
      one = same-value a.key.value b.key.value same

      equal : value_cmp a.key.value b.key.value ≡ Equal
      equal = ap (λ v. value_cmp v b.key.value) one ∙ tied_itself values_total b.key.value

      in_key : key_cmp a.key b.key ≡ Less
      in_key = (of-one a b b (is.digest ∙ ap digest_of one ∙ sym js.digest) less (inr refl)).less

  doubles-after : (last : Digested) (keys : List Digested) → Ascends last keys → IsKey last → ((k : Digested) → Contains keys k → IsKey k)
      → (x : Break) → Contains (doubles_from (Some last) keys) x → IsValueBreak Unique number layer x
  doubles-after last [] h is each x c = absurd (none-in x c)
  doubles-after last (k ∷ rest) h is each x c =
      by (Contains-append_cases (double_after (Some last) k) (doubles_from (Some k) rest) x c)
      (λ d. doubles-after k rest h.1 (each k (contains-here k rest)) (λ j e. each j (contains-there k rest j e)) x d)
    where
      at : (t : Bool) → nat_eq last.digest k.digest && same_value last.key.value k.key.value ≡ t → Contains (if t then Pair last.key.id k.key.id ∷ [] else []) x → IsValueBreak Unique number layer x
      at false js d = absurd (none-in x d)
      at true js d = here (contains-cons (Pair last.key.id k.key.id) [] x d)
        where
          here : (Pair last.key.id k.key.id ≡ x) ⊎ Contains [] x → IsValueBreak Unique number layer x
          here (inl same) =
              subst (IsValueBreak Unique number layer) same
              (is-break last k is (each k (contains-here k rest)) h.0 (and_true (nat_eq last.digest k.digest) (same_value last.key.value k.key.value) js))
          here (inr wrong) = absurd (none-in x wrong)

      by : Contains (double_after (Some last) k) x ⊎ Contains (doubles_from (Some k) rest) x → (Contains (doubles_from (Some k) rest) x → IsValueBreak Unique number layer x)
          → IsValueBreak Unique number layer x
      by (inl d) later = at (nat_eq last.digest k.digest && same_value last.key.value k.key.value) refl d
      by (inr d) later = later d

  doubles-are : (keys : List Digested) → AllAscend keys → ((k : Digested) → Contains keys k → IsKey k) → (x : Break) → Contains (doubles_from None keys) x → IsValueBreak Unique number layer x
  doubles-are [] h each x c = absurd (none-in x c)
  doubles-are (k ∷ rest) h each x c = doubles-after k rest h (each k (contains-here k rest)) (λ j e. each j (contains-there k rest j e)) x c

  -- ---- the first

  module _ (keys : List Digested) (moved : IsPermutation (keys_in number layer.features) keys) (sorted : IsSorted digested_cmp keys) where
    rising : AllAscend keys
    rising = all-ascend keys sorted (IsDistinct-IsPermutation one_id flips (keys_in number layer.features) keys moved (distinct-in layer.features fits.rising))
      where
        flips : (a b : Digested) → one_id a b ≡ one_id b a
        flips a b = turned a.key.id b.key.id
          where
            turned : (m n : ℕ) → nat_eq m n ≡ nat_eq n m
            turned m n = grind (arith, nat_tests)

    each : (k : Digested) → Contains keys k → IsKey k
    each k c = key-from k (Contains-permutation keys (keys_in number layer.features) k (IsPermutation-sym (keys_in number layer.features) keys moved) c)

    has : (id : ℕ) (value : AttrValue) → HasValue number layer id value → Contains keys (digested value id)
    has id value h = Contains-permutation (keys_in number layer.features) keys (digested value id) moved (key-to id value h)

    to : (x : Break) → Contains (doubles_from None keys) x → Contains (breaks_in Unique number layer) x
    to x c = unique-from number layer fits.rising x (doubles-are keys rising each x c)

    -- the first pair is one of neighbours
    from : (x : Break) → first_of (breaks_in Unique number layer) ≡ Some x → Contains (doubles_from None keys) x
    from x is = by x is (unique-to number layer fits.rising x (first-there (breaks_in Unique number layer) x is))
      where
        first-there : (xs : List Break) (y : Break) → first_of xs ≡ Some y → Contains xs y
        first-there [] y h = cc
        first-there (z ∷ zs) y h = subst (Contains (z ∷ zs)) (some-is z y h) (contains-here z zs)
          where
            some-is : (a b : Break) → Some a ≡ Some b → a ≡ b
            some-is a b same = cc

        no-nearer : (i j k : ℕ) → is_before (Pair i k) (Pair i j) ≡ false → k ≤ j → k ≡ j
        no-nearer i j k h le = grind (arith, nat_tests)

        tied : (n : ℕ) → nat_cmp n n ≡ Equal
        tied n = grind (arith, nat_tests)

        below-cmp : (i j : ℕ) → i < j → nat_cmp i j ≡ Less
        below-cmp i j less = grind (arith, nat_tests)

        by : (y : Break) → first_of (breaks_in Unique number layer) ≡ Some y → IsValueBreak Unique number layer y → Contains (doubles_from None keys) y
        by (Alone i) at h = absurd h
        by (Pair i j) at h =
            let value = h.1.0 in
            let in_key : key_cmp (key value i) (key value j) ≡ Less = equal-then (value_cmp value value) (nat_cmp i j) (tied_itself values_total value) ∙ below-cmp i j h.0 in
            let less : digested_cmp (digested value i) (digested value j) ≡ Less =
            equal-then (nat_cmp (digest_of value) (digest_of value)) (key_cmp (key value i) (key value j)) (tied (digest_of value)) ∙ in_key in
            let near = neighbour None keys (digested value i) (digested value j) rising each (has i value h.1.1) (has j value h.1.2) less refl refl in
            let low = first-least (breaks_in Unique number layer) (unique-begins number layer fits.rising) (Pair i near.id) (Pair i j) at (to (Pair i near.id) near.found) in
            subst (λ k. Contains (doubles_from None keys) (Pair i k)) (no-nearer i j near.id low near.near) near.found

    pub least-double : least_from None (doubles_from None keys) ≡ first_of (breaks_in Unique number layer)
    least-double = least-begins (doubles_from None keys) (breaks_in Unique number layer) (unique-begins number layer fits.rising) to from

-- ---- loops

-- the values of one more feature
pub taken : (number : ℕ) (e : ℕ × FeatureContent) (left rest : List (ℕ × FeatureContent)) (value : Option AttrValue) (keys new all : List Digested) → left ≡ e ∷ rest → value ≡ value_in number e.1
    → new ≡ keys ++ key_with e.0 value → keys ++ keys_in number left ≡ all → new ++ keys_in number rest ≡ all
taken number e left rest value keys new all is found gives invariant =
    ap (λ ks. ks ++ keys_in number rest) (gives ∙ ap (λ o. keys ++ key_with e.0 o) found)
    ∙ append_assoc keys (key_with e.0 (value_in number e.1)) (keys_in number rest)
    ∙ ap (λ es. keys ++ keys_in number es) (sym is)
    ∙ invariant

-- one key more
pub stepped : (keys : List Digested) (i : ℕ) (item : Digested) (last : Option Digested) (least new whole : Option Break) → i < length keys → item ≡ get_or keys i item
    → least_from least (doubles_from last (drop i keys)) ≡ whole → new ≡ least_from least (double_after last item) → least_from new (doubles_from (Some item) (drop (i + 1) keys)) ≡ whole
stepped keys i item last least new whole within is invariant gives =
    ap (λ l. least_from l (doubles_from (Some item) (drop (i + 1) keys))) gives
    ∙ sym (least-append least (double_after last item) (doubles_from (Some item) (drop (i + 1) keys)))
    ∙ ap (λ k. least_from least (doubles_from last (k ∷ drop (i + 1) keys))) is
    ∙ ap (λ ks. least_from least (doubles_from last ks)) (sym (drop_more keys i item within))
    ∙ invariant

-- none left
pub all-stepped : (keys : List Digested) (i : ℕ) (last : Option Digested) (least whole : Option Break) → length keys ≤ i → least_from least (doubles_from last (drop i keys)) ≡ whole → least ≡ whole
all-stepped keys i last least whole past invariant = ap (λ ks. least_from least (doubles_from last ks)) (sym (drop_all i keys past)) ∙ invariant
