-- The nearest features that are computed are those that are nearest over all points of the plane.
use Rattle.std.proofs.Common.{◌≡◌, ◌⊎◌, inl, inr, refl, ap, sym, subst, ◌∙◌, ℕ, zero, suc, ◌<◌, min, pos, ◌*ℤ◌, Bool, true, false, cond, List, [], ◌∷◌, length, take, map, Some, IsTrue, nat_eq, arith}
use Rattle.std.specs.Prelude.{if◌then◌else◌}
use Rattle.std.specs.declared.cmp.Ordering.TheVariants.{Less}
use Rattle.std.specs.List.{AllByRecursion, Contains}
use Rattle.std.specs.List.Sorted.{IsStrictlySortedBy}
use Rattle.std.specs.Map.{keys_of, lookup}
use Rattle.std.specs.Ordering.{nat_cmp}
use Rattle.std.proofs.lemmas.Bool.{eqb-true}
use Rattle.std.proofs.lemmas.Bool.Decides.{nat_tests}
use Rattle.std.proofs.lemmas.List.{length-map, length-take}
use Rattle.std.proofs.lemmas.List.Elements.{Contains-append_right}
use Rattle.sf_grid.specs.Fraction.{Fraction, fraction_eq}
use Rattle.sf_grid.proofs.NumberTests.{test_from_eq}
use Rattle.sf_geometry.specs.declared.geometry.Geometry.{Geometry}
use Rattle.sf_rtree.proofs.Sizes.{all_take}
use Rattle.sf_valid_rules.specs.Validity.{IsValid}
use Rattle.sf_distance.specs.Squares.{IsLeastSquare}
use Rattle.sf_nearness.specs.Sets.{IsOf}
use Rattle.sf_nearness.proofs.PairLaws.{computed_is_least, least_is_number, least_is_one}
use Rattle.sf_features.specs.Features.{FeatureContent}
use Rattle.sf_layers.specs.Content.{LayerContent, feature_of}
use Rattle.sf_query.proofs.FilterLaws.{IsFoundIn, each-found, each-value, value-found}
use Rattle.sf_near.specs.Nearest.{distance_of, in_order, is_nearer, put_in_order}
use Rattle.sf_near.specs.Replies.{AreInOrder, NearestIsOverThePlane}
use Rattle.sf_near.proofs.FoundLaws.{all-good, order}
use Rattle.sf_near.proofs.NearerLaws.{Feature, IsGood, apart-nearer, same-numbers}
use Rattle.sf_near.proofs.OrderedLaws.{IsOrdered, each-in_order, each-put, length-in_order, ordered-in_order}

-- ---- features apart by their identifiers

abbrev IsApart : Feature → Feature → Type 0
IsApart p q = (p.0 < q.0) ⊎ (q.0 < p.0)

turned : (p q : Feature) → IsApart p q → IsApart q p
turned p q (inl l) = inr l
turned p q (inr l) = inl l

each-with : {X : Type 0} (P Q R : X → Type 0) → ((x : X) → P x → Q x → R x) → (xs : List X) → AllByRecursion P xs → AllByRecursion Q xs → AllByRecursion R xs
each-with P Q R f [] h k = tt
each-with P Q R f (x ∷ xs) h k = (f x h.0 k.0, each-with P Q R f xs h.1 k.1)

-- each is apart from all behind it
abbrev AreApart : List Feature → Type 0
AreApart [] = Unit {0}
AreApart (p ∷ ps) = AllByRecursion (IsApart p) ps × AreApart ps

apart-put : (x : Feature) (ys : List Feature) → AllByRecursion (IsApart x) ys → AreApart ys → AreApart (put_in_order is_nearer x ys)
apart-put x [] h are = (tt, tt)
apart-put x (y ∷ ys) h are = by (is_nearer y x) (apart-put x ys h.1 are.1)
  where
    by : (b : Bool) → AreApart (put_in_order is_nearer x ys) → AreApart (if b then y ∷ put_in_order is_nearer x ys else x ∷ y ∷ ys)
    by true later = (each-put is_nearer (IsApart y) x ys (turned x y h.0) are.0, later)
    by false later = (h, are)

apart-in_order : (acc xs : List Feature) → AreApart acc → AreApart xs → AllByRecursion (λ x. AllByRecursion (IsApart x) acc) xs → AreApart (in_order is_nearer acc xs)
apart-in_order acc [] h are among = h
apart-in_order acc (x ∷ xs) h are among =
    apart-in_order (put_in_order is_nearer x acc) xs (apart-put x acc among.0 h) are.1
    (each-with (λ y. AllByRecursion (IsApart y) acc) (IsApart x) (λ y. AllByRecursion (IsApart y) (put_in_order is_nearer x acc))
    (λ y other apart. each-put is_nearer (IsApart y) x acc (turned x y apart) other) xs among.1 are.0)

less-below : (m n : ℕ) → nat_cmp m n ≡ Less → m < n
less-below m n h = grind (arith, nat_tests)

apart-rising : (b : Geometry) (es : List (ℕ × FeatureContent)) → IsStrictlySortedBy nat_cmp (keys_of es) → AreApart (map (distance_of b) es)
unfolding IsStrictlySortedBy
apart-rising b [] h = tt
apart-rising b (e ∷ es) h = (later es h.0, apart-rising b es h.1)
  where
    later : (fs : List (ℕ × FeatureContent)) → AllByRecursion (λ y. nat_cmp e.0 y ≡ Less) (keys_of fs) → AllByRecursion (IsApart (distance_of b e)) (map (distance_of b) fs)
    later [] above = tt
    later (f ∷ fs) above = (inl (less-below e.0 f.0 above.0), later fs above.1)

-- ordered ones that are apart are in order
strictly : (xs : List Feature) → IsOrdered is_nearer xs → AreApart xs → AreInOrder xs
strictly [] is are = tt
strictly (x ∷ xs) is are =
    (each-with (λ y. is_nearer y x ≡ false) (IsApart x) (λ y. IsTrue (is_nearer x y)) (λ y h apart. apart-nearer x y h apart) xs is.0 are.0, strictly xs is.1 are.1)

take-in_order : (k : ℕ) (xs : List Feature) → AreInOrder xs → AreInOrder (take k xs)
take-in_order zero xs is = tt
take-in_order (suc k) [] is = tt
take-in_order (suc k) (x ∷ xs) is = (all_take (λ y. IsTrue (is_nearer x y)) k xs is.0, take-in_order k xs is.1)

-- ---- members

abbrev IsIn : Feature → List Feature → Type 0
IsIn q [] = ⊥
IsIn q (x ∷ xs) = (q ≡ x) ⊎ IsIn q xs

all-in : (P : Feature → Type 0) (q : Feature) (xs : List Feature) → AllByRecursion P xs → IsIn q xs → P q
all-in P q [] h i = absurd i
all-in P q (x ∷ xs) h (inl e) = subst P (sym e) h.0
all-in P q (x ∷ xs) h (inr i) = all-in P q xs h.1 i

in-put : (q x : Feature) (ys : List Feature) → (q ≡ x) ⊎ IsIn q ys → IsIn q (put_in_order is_nearer x ys)
in-put q x [] i = i
in-put q x (y ∷ ys) i = by (is_nearer y x) (in-put q x ys) i
  where
    by : (b : Bool) → ((q ≡ x) ⊎ IsIn q ys → IsIn q (put_in_order is_nearer x ys)) → (q ≡ x) ⊎ ((q ≡ y) ⊎ IsIn q ys) → IsIn q (if b then y ∷ put_in_order is_nearer x ys else x ∷ y ∷ ys)
    by true later (inl e) = inr (later (inl e))
    by true later (inr (inl e)) = inl e
    by true later (inr (inr j)) = inr (later (inr j))
    by false later j = j

in-in_order : (q : Feature) (acc xs : List Feature) → IsIn q acc ⊎ IsIn q xs → IsIn q (in_order is_nearer acc xs)
in-in_order q acc [] (inl i) = i
in-in_order q acc [] (inr i) = absurd i
in-in_order q acc (x ∷ xs) (inl i) = in-in_order q (put_in_order is_nearer x acc) xs (inl (in-put q x acc (inr i)))
in-in_order q acc (x ∷ xs) (inr (inl e)) = in-in_order q (put_in_order is_nearer x acc) xs (inl (in-put q x acc (inl e)))
in-in_order q acc (x ∷ xs) (inr (inr i)) = in-in_order q (put_in_order is_nearer x acc) xs (inr i)

in-features : (b : Geometry) (id : ℕ) (f : FeatureContent) (es : List (ℕ × FeatureContent)) → lookup (nat_eq id) es ≡ Some f → IsIn (distance_of b (id, f)) (map (distance_of b) es)
in-features b id f [] found = cc
in-features b id f (e ∷ es) found = by (nat_eq id e.0) refl (in-features b id f es) found
  where
    by : (t : Bool) → nat_eq id e.0 ≡ t → (lookup (nat_eq id) es ≡ Some f → IsIn (distance_of b (id, f)) (map (distance_of b) es)) → cond t (Some e.1) (lookup (nat_eq id) es) ≡ Some f
        → IsIn (distance_of b (id, f)) (map (distance_of b) (e ∷ es))
    by true is later here =
        let value : ◌≡◌ {A = FeatureContent} e.1 f = cc in
        let same : id ≡ e.0 = eqb-true id e.0 is in
        inl (ap (λ (n : ℕ). distance_of b (n, f)) same ∙ ap (λ (g : FeatureContent). distance_of b (e.0, g)) (sym value))
    by false is later here = inr (later here)

-- who is a member, and none of the front, is behind the front
others : (k : ℕ) (q : Feature) (xs : List Feature) → AreInOrder xs → IsIn q xs → ¬ (Contains (map (λ (p : Feature). p.0) (take k xs)) q.0) → AllByRecursion (λ p. IsTrue (is_nearer p q)) (take k xs)
others zero q xs is i out = tt
others (suc k) q [] is i out = tt
others (suc k) q (x ∷ xs) is (inl e) out = absurd (out (0, omega arith, ap (λ (p : Feature). p.0) (sym e)))
others (suc k) q (x ∷ xs) is (inr i) out = (
  all-in (λ y. IsTrue (is_nearer x y)) q xs is.0 i,
  others k q xs is.1 i (λ h. out (Contains-append_right (x.0 ∷ []) (map (λ (p : Feature). p.0) (take k xs)) q.0 h)),
)

-- ---- over the plane

IsMeasuredIn : LayerContent → Geometry → Feature → Type 0
IsMeasuredIn layer b p = (feature : FeatureContent) × (feature_of layer p.0 ≡ Some feature) × IsLeastSquare (IsOf feature.geometry) (IsOf b) p.1

each-measured : (layer : LayerContent) (b : Geometry) (es : List (ℕ × FeatureContent)) → IsValid b → AllByRecursion (IsFoundIn layer.features) es → AllByRecursion (λ (e : ℕ × FeatureContent). IsValid e.1.geometry) es
    → AllByRecursion (λ (p : Feature). (feature : FeatureContent) × (feature_of layer p.0 ≡ Some feature) × IsLeastSquare (IsOf feature.geometry) (IsOf b) p.1) (map (distance_of b) es)
each-measured layer b [] vb found valid = tt
each-measured layer b (e ∷ es) vb found valid = ((e.1, found.0, computed_is_least e.1.geometry b valid.0 vb), each-measured layer b es vb found.1 valid.1)

itself : (a : Fraction) → IsTrue (fraction_eq a a)
itself a = test_from_eq (a.num *ℤ pos a.den) (a.num *ℤ pos a.den) refl

pub nearest_is_over_the_plane : NearestIsOverThePlane
nearest_is_over_the_plane layer k b rising valid vb =
    let ps = map (distance_of b) layer.features in
    let sorted = in_order is_nearer [] ps in
    let found = each-found layer.features rising in
    let values = each-value (λ (feature : FeatureContent). IsValid feature.geometry) layer.features valid in
    let good = all-good b layer.features in
    let are : AreInOrder sorted = strictly sorted (ordered-in_order is_nearer IsGood order [] ps tt good tt) (apart-in_order [] ps tt (apart-rising b layer.features rising) (none ps)) in
    let count = length-in_order is_nearer [] ps in
    let same = length-map layer.features (distance_of b) in
    let all : length sorted ≡ length layer.features = omega (arith, count, same) in
    record {
      in_order = take-in_order k sorted are;
      as_many = length-take k sorted ∙ ap (min k) all;
      measured = all_take _ k sorted (each-in_order is_nearer _ [] ps tt (each-measured layer b layer.features vb found values));
      no_other = λ id feature square there least out.
          let q : Feature = distance_of b (id, feature) in
          let behind = others k q sorted are (in-in_order q [] ps (inr (in-features b id feature layer.features there))) out in
          each-with (λ p. IsTrue (is_nearer p q)) IsGood (λ p. IsTrue (is_nearer p (id, square)))
          (λ p h g. same-numbers p q p (id, square) g (least_is_number feature.geometry b) g least.is_number refl refl (itself p.1)
          (least_is_one feature.geometry b q.1 square (computed_is_least feature.geometry b (value-found (λ (f : FeatureContent). IsValid f.geometry) _ feature layer.features valid there) vb) least) h)
          (take k sorted) behind (all_take IsGood k sorted (each-in_order is_nearer IsGood [] ps tt good));
    }
  where
    none : (xs : List Feature) → AllByRecursion (λ x. AllByRecursion (IsApart x) []) xs
    none [] = tt
    none (x ∷ xs) = (tt, none xs)
