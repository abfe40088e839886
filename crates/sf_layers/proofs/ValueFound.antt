-- What is found among identifiers that have all is what a look at each feature finds.
use Rattle.std.specs.Prelude.{◌≡◌, ℕ, Bool, true, false, ◌&&◌, ◌||◌, cond, List, [], ◌∷◌, filter, Option, None, Some, IfSome, IsSomeAnd, IsTrue, nat_eq, nat_lt}
use Rattle.std.specs.declared.cmp.Ordering.TheVariants.{Less}
use Rattle.std.specs.Cmp.{nat_eq_equiv}
use Rattle.std.specs.List.{AllByRecursion, Contains, list_any}
use Rattle.std.specs.List.Sorted.{IsStrictlySortedBy}
use Rattle.std.specs.Map.{keys_of, lookup}
use Rattle.std.specs.Option.{option_map_or}
use Rattle.std.specs.Ordering.{nat_cmp}
use Rattle.std.proofs.Common.{refl, ap, sym, subst, ◌∙◌, arith, true≢false}
use Rattle.std.proofs.lemmas.Bool.Decides.{nat_tests}
use Rattle.std.proofs.lemmas.List.Kept.{IsStrictlySortedBy-filter}
use Rattle.std.proofs.lemmas.Map.Views.{any-filter_same, list_any-from_Contains}
use Rattle.sf_features.specs.declared.attr_value.AttrValue.{AttrValue}
use Rattle.sf_features.specs.Features.{FeatureContent, value_in}
use Rattle.sf_layers.specs.Found.{has_value_that}
use Rattle.sf_layers.specs.Moves.{Features}
use Rattle.sf_layers.specs.ValueIndexes.{AreListed, AreNoted, HasEach, HasPair, Indexes, IsKnown, Lists, Pairs}
use Rattle.sf_layers.proofs.ValuesKept.{all-found, noted-found}

-- ---- rising numbers that are the same set are the same list

less-apart : (m n : ℕ) → nat_cmp m n ≡ Less → nat_eq m n ≡ false
less-apart m n h = grind (arith, nat_tests)

less-through : (k m n : ℕ) → nat_cmp k m ≡ Less → nat_cmp m n ≡ Less → nat_cmp k n ≡ Less
less-through k m n g h = grind (arith, nat_tests)

itself : (n : ℕ) → nat_eq n n ≡ true
itself n = grind (arith, nat_tests)

same_number : (m n : ℕ) → nat_eq m n ≡ true → m ≡ n
same_number m n is = grind (arith, nat_tests)

abbrev Above : ℕ → List ℕ → Type 0
Above k ns = AllByRecursion (λ n. nat_cmp k n ≡ Less) ns

none-above : (k : ℕ) (ns : List ℕ) → Above k ns → list_any (nat_eq k) ns ≡ false
none-above k [] above = refl
none-above k (n ∷ ns) above = ap (λ b. b || list_any (nat_eq k) ns) (less-apart k n above.0) ∙ none-above k ns above.1

above-through : (k m : ℕ) (ns : List ℕ) → nat_cmp k m ≡ Less → Above m ns → Above k ns
above-through k m [] h above = tt
above-through k m (n ∷ ns) h above = (less-through k m n h above.0, above-through k m ns h above.1)

by_order : (P : Type 0) (m n : ℕ) → (nat_cmp m n ≡ Less → P) → (m ≡ n → P) → (nat_cmp n m ≡ Less → P) → P
by_order P m n below same above = by (nat_lt m n) refl (nat_lt n m) refl
  where
    by : (b : Bool) → nat_lt m n ≡ b → (c : Bool) → nat_lt n m ≡ c → P
    by true is c at = below (grind (arith, nat_tests))
    by false is true at = above (grind (arith, nat_tests))
    by false is false at = same (grind (arith, nat_tests))

abbrev SameSet : List ℕ → List ℕ → Type 0
SameSet ms ns = (q : ℕ) → list_any (nat_eq q) ms ≡ list_any (nat_eq q) ns

-- without the first, where that is the same and below all others
without_first : (m : ℕ) (ms ns : List ℕ) → Above m ms → Above m ns → SameSet (m ∷ ms) (m ∷ ns) → SameSet ms ns
without_first m ms ns above_ms above_ns same q = by (nat_eq q m) refl (same q)
  where
    by : (b : Bool) → nat_eq q m ≡ b → (nat_eq q m || list_any (nat_eq q) ms) ≡ (nat_eq q m || list_any (nat_eq q) ns) → list_any (nat_eq q) ms ≡ list_any (nat_eq q) ns
    by true is h =
        subst (λ k. list_any (nat_eq k) ms ≡ list_any (nat_eq k) ns) (sym (same_number q m is)) (none-above m ms above_ms ∙ sym (none-above m ns above_ns))
    by false is h = ap (λ b. b || list_any (nat_eq q) ms) (sym is) ∙ h ∙ ap (λ b. b || list_any (nat_eq q) ns) is

not_there : (m : ℕ) (ms ns : List ℕ) → Above m ns → SameSet (m ∷ ms) ns → ⊥
not_there m ms ns above same = true≢false (sym (ap (λ b. b || list_any (nat_eq m) ms) (itself m)) ∙ same m ∙ none-above m ns above)

flipped : (ms ns : List ℕ) → SameSet ms ns → SameSet ns ms
flipped ms ns same q = sym (same q)

same_list : (ms ns : List ℕ) → IsStrictlySortedBy nat_cmp ms → IsStrictlySortedBy nat_cmp ns → SameSet ms ns → ms ≡ ns
unfolding IsStrictlySortedBy
same_list [] [] h k same = refl
same_list [] (n ∷ ns) h k same = absurd (not_there n ns [] tt (flipped [] (n ∷ ns) same))
same_list (m ∷ ms) [] h k same = absurd (not_there m ms [] tt same)
same_list (m ∷ ms) (n ∷ ns) h k same = by_order (m ∷ ms ≡ n ∷ ns) m n
    (λ below. absurd (not_there m ms (n ∷ ns) (below, above-through m n ns below k.0) same))
    (λ is. let above_ns : Above m ns = subst (λ l. Above l ns) (sym is) k.0 in
    ap (λ l. l ∷ ms) is ∙ ap (λ l. n ∷ l) (same_list ms ns h.1 k.1 (without_first m ms ns h.0 above_ns (subst (λ l. SameSet (m ∷ ms) (l ∷ ns)) (sym is) same))))
    (λ above. absurd (not_there n ns (m ∷ ms) (above, above-through n m ms above h.0) (flipped (m ∷ ms) (n ∷ ns) same)))

-- ---- the features that pass a test

module _ (test : FeatureContent → Bool) where
  abbrev passing : Features → List ℕ
  passing features = keys_of (filter (λ entry. test entry.1) features)

  abbrev passes : Features → ℕ → Bool
  passes features id = option_map_or test (lookup (nat_eq id) features) false

  passing-above : (k : ℕ) (es : Features) → Above k (keys_of es) → Above k (passing es)
  passing-above k [] above = tt
  passing-above k (e ∷ es) above = by (passing-above k es above.1) (test e.1)
    where
      by : Above k (passing es) → (b : Bool) → Above k (keys_of (cond b (e ∷ filter (λ entry. test entry.1) es) (filter (λ entry. test entry.1) es)))
      by later true = (above.0, later)
      by later false = later

  passing-rises : (es : Features) → IsStrictlySortedBy nat_cmp (keys_of es) → IsStrictlySortedBy nat_cmp (passing es)
  unfolding IsStrictlySortedBy
  passing-rises [] rising = tt
  passing-rises (e ∷ es) rising = by (passing-rises es rising.1) (test e.1)
    where
      by : IsStrictlySortedBy nat_cmp (passing es) → (b : Bool) → IsStrictlySortedBy nat_cmp (keys_of (cond b (e ∷ filter (λ entry. test entry.1) es) (filter (λ entry. test entry.1) es)))
      by later true = (passing-above e.0 es rising.0, later)
      by later false = later

  any-passing : (q : ℕ) (es : Features) → IsStrictlySortedBy nat_cmp (keys_of es) → list_any (nat_eq q) (passing es) ≡ passes es q
  unfolding IsStrictlySortedBy
  any-passing q [] rising = refl
  any-passing q (e ∷ es) rising = by (any-passing q es rising.1) (nat_eq q e.0) refl (test e.1) refl
    where
      by : list_any (nat_eq q) (passing es) ≡ passes es q → (b : Bool) → nat_eq q e.0 ≡ b → (c : Bool) → test e.1 ≡ c
          → list_any (nat_eq q) (keys_of (cond c (e ∷ filter (λ entry. test entry.1) es) (filter (λ entry. test entry.1) es))) ≡ option_map_or test (cond b (Some e.1) (lookup (nat_eq q) es)) false
      by later true is true at = ap (λ b. b || list_any (nat_eq q) (passing es)) is ∙ sym at
      by later true is false at =
          subst (λ k. list_any (nat_eq k) (passing es) ≡ false) (sym (same_number q e.0 is)) (none-above e.0 (passing es) (passing-above e.0 es rising.0)) ∙ sym at
      by later false is true at = ap (λ b. b || list_any (nat_eq q) (passing es)) is ∙ later
      by later false is false at = later

  found-one : (ids : List ℕ) (features : Features) (q : ℕ) → ((feature : FeatureContent) → lookup (nat_eq q) features ≡ Some feature → IsTrue (test feature) → Contains ids q)
      → (passes features q && list_any (nat_eq q) ids) ≡ passes features q
  found-one ids features q all = by (lookup (nat_eq q) features) refl
    where
      at : (b : Bool) → (b ≡ true → Contains ids q) → (b && list_any (nat_eq q) ids) ≡ b
      at true there = list_any-from_Contains nat_eq_equiv q ids (there refl)
      at false there = refl

      by : (o : Option FeatureContent) → lookup (nat_eq q) features ≡ o → (option_map_or test o false && list_any (nat_eq q) ids) ≡ option_map_or test o false
      by None found = refl
      by (Some feature) found = at (test feature) (all feature found)

  pub found-all : (ids : List ℕ) (features : Features) → IsStrictlySortedBy nat_cmp ids → IsStrictlySortedBy nat_cmp (keys_of features)
      → ((id : ℕ) → (feature : FeatureContent) → lookup (nat_eq id) features ≡ Some feature → IsTrue (test feature) → Contains ids id)
      → filter (passes features) ids ≡ passing features
  found-all ids features rising keys_rise all =
      same_list (filter (passes features) ids) (passing features) (IsStrictlySortedBy-filter nat_cmp (passes features) ids rising) (passing-rises features keys_rise)
      (λ q. any-filter_same (nat_eq q) (passes features) (passes features q) (λ k is. ap (passes features) (sym (same_number q k is))) ids
      ∙ found-one ids features q (all q) ∙ sym (any-passing q features keys_rise))

-- ---- what an index finds

all-there : (number : ℕ) (test : AttrValue → Bool) (indexes : Indexes) (pairs : Pairs) (features : Features) (ids : List ℕ) → AreNoted indexes features → lookup (nat_eq number) indexes ≡ Some pairs
    → HasEach test pairs ids → (id : ℕ) → (feature : FeatureContent) → lookup (nat_eq id) features ≡ Some feature → IsTrue (has_value_that test number feature) → Contains ids id
all-there number test indexes pairs features ids noted there each id feature found has = by (value_in number feature) refl has
  where
    by : (o : Option AttrValue) → value_in number feature ≡ o → IsTrue (option_map_or test o false) → Contains ids id
    by None is has = absurd (true≢false (sym has))
    by (Some value) is has =
        let known : IsKnown indexes id number value = all-found (λ e. IsKnown indexes id e.0 e.1) number value feature.values (noted-found indexes features id feature noted found) is in
        each value id (subst (λ o. IfSome o (λ p. HasPair p value id)) there known) has

pub listed-rise : (number : ℕ) (test : AttrValue → Bool) (indexes : Indexes) (ids : List ℕ) → AreListed test number indexes ids → IsStrictlySortedBy nat_cmp ids
listed-rise number test indexes ids listed = by (lookup (nat_eq number) indexes) listed
  where
    by : (o : Option Pairs) → IsSomeAnd o (λ pairs. Lists test pairs ids) → IsStrictlySortedBy nat_cmp ids
    by None has = absurd has
    by (Some pairs) has = has.0

pub listed-there : (number : ℕ) (test : AttrValue → Bool) (indexes : Indexes) (features : Features) (ids : List ℕ) → AreNoted indexes features → AreListed test number indexes ids
    → (id : ℕ) → (feature : FeatureContent) → lookup (nat_eq id) features ≡ Some feature → IsTrue (has_value_that test number feature) → Contains ids id
listed-there number test indexes features ids noted listed = by (lookup (nat_eq number) indexes) refl listed
  where
    by : (o : Option Pairs) → lookup (nat_eq number) indexes ≡ o → IsSomeAnd o (λ pairs. Lists test pairs ids)
        → (id : ℕ) → (feature : FeatureContent) → lookup (nat_eq id) features ≡ Some feature → IsTrue (has_value_that test number feature) → Contains ids id
    by None there has = absurd has
    by (Some pairs) there has = all-there number test indexes pairs features ids noted there has.1
