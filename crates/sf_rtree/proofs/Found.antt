-- The identifiers that a search finds, sorted, are those of the map's boxes that meet.
use Rattle.std.specs.Prelude.{◌≡◌, ◌≢◌, ℕ, ◌<◌, Bool, true, false, cond, ◌||◌, List, [], ◌∷◌, Option, None, Some, map, filter, nat_eq}
use Rattle.std.specs.declared.cmp.Ordering.TheVariants.{Less}
use Rattle.std.specs.Cmp.{nat_eq_equiv}
use Rattle.std.specs.List.{AllByRecursion, IsDistinct, list_any}
use Rattle.std.specs.List.Sorted.{IsPermutation, IsSorted, IsStrictlySortedBy}
use Rattle.std.specs.Map.{keys_of}
use Rattle.std.specs.Ordering.{nat_cmp}
use Rattle.std.proofs.Common.{refl, ap, sym, ◌∙◌, subst, arith, true≢false}
use Rattle.std.proofs.lemmas.Bool.{eq-eqb, eqb-false, eqb-true, ne_eqb}
use Rattle.std.proofs.lemmas.Bool.Decides.{nat_tests}
use Rattle.std.proofs.lemmas.List.Sorted.{IsNonDecreasingBy-from_sort, list_any-IsPermutation}
use Rattle.std.proofs.lemmas.Map.Keys.{IsDistinct-IsPermutation, IsStrictlyIncreasing-from_distinct, sorted_from_strictly_increasing}
use Rattle.sf_geometry.specs.declared.extent.Extent.{Extent}
use Rattle.sf_geometry.specs.Envelope.{extents_meet}
use Rattle.sf_rtree.specs.Boxed.{Boxed}
use Rattle.sf_rtree.specs.Indexes.{Boxes, box_of, ids_meeting}
use Rattle.sf_rtree.specs.Nodes.{ids_among}
use Rattle.sf_rtree.specs.Subtrees.{boxes_of}
use Rattle.sf_rtree.specs.Subtrees.{IsDistinct as AreApart}
use Rattle.sf_rtree.proofs.Entries.{box-boxes_of, pairs, rises-boxes_of}
use Rattle.sf_rtree.proofs.Maps.{Rises, by_order}
use Rattle.sf_rtree.proofs.Order.{all_map}

-- ---- lists of numbers that rise

abbrev pub NumbersRise : List ℕ → Type 0
NumbersRise [] = Unit {0}
NumbersRise (x ∷ xs) = AllByRecursion (λ y. x < y) xs × NumbersRise xs

not_among : (n : ℕ) (xs : List ℕ) → AllByRecursion (λ x. n < x) xs → list_any (nat_eq n) xs ≡ false
not_among n [] h = refl
not_among n (x ∷ xs) h =
    let apart : n ≢ x = omega (arith, h.0) in
    ap (λ b. b || list_any (nat_eq n) xs) (ne_eqb n x apart) ∙ not_among n xs h.1

first_among : (n : ℕ) (xs : List ℕ) → list_any (nat_eq n) (n ∷ xs) ≡ true
first_among n xs = ap (λ b. b || list_any (nat_eq n) xs) (eq-eqb n n refl)

no_lower : (x y : ℕ) (xs ys : List ℕ) (P : Type 0) → AllByRecursion (λ z. y < z) ys → x < y
    → list_any (nat_eq x) (x ∷ xs) ≡ list_any (nat_eq x) (y ∷ ys) → P
no_lower x y xs ys P above below same =
    absurd (true≢false (sym (first_among x xs) ∙ same ∙ not_among x (y ∷ ys) (below, all_map (λ z. y < z) (λ z. x < z) (λ z p. omega (arith, p, below)) ys above)))

rest_among : (x y : ℕ) (xs ys : List ℕ) → AllByRecursion (λ z. x < z) xs → AllByRecursion (λ z. y < z) ys → x ≡ y
    → ((n : ℕ) → list_any (nat_eq n) (x ∷ xs) ≡ list_any (nat_eq n) (y ∷ ys)) → (n : ℕ) → list_any (nat_eq n) xs ≡ list_any (nat_eq n) ys
rest_among x y xs ys above also same h n = at (nat_eq n x) refl
  where
    at : (b : Bool) → nat_eq n x ≡ b → list_any (nat_eq n) xs ≡ list_any (nat_eq n) ys
    at true is =
        let p = eqb-true n x is in
        ap (λ m. list_any (nat_eq m) xs) p ∙ not_among x xs above ∙ sym (not_among y ys also) ∙ ap (λ m. list_any (nat_eq m) ys) (sym (p ∙ same))
    at false is =
        let apart = eqb-false n x is in
        sym (ap (λ b. b || list_any (nat_eq n) xs) is) ∙ h n ∙ ap (λ b. b || list_any (nat_eq n) ys) (ne_eqb n y (λ p. apart (p ∙ sym same)))

-- rising lists with the same members are one
same_numbers : (xs ys : List ℕ) → NumbersRise xs → NumbersRise ys → ((n : ℕ) → list_any (nat_eq n) xs ≡ list_any (nat_eq n) ys) → xs ≡ ys
same_numbers [] [] h k same = refl
same_numbers [] (y ∷ ys) h k same = absurd (true≢false (sym (same y ∙ first_among y ys)))
same_numbers (x ∷ xs) [] h k same = absurd (true≢false (sym (first_among x xs) ∙ same x))
same_numbers (x ∷ xs) (y ∷ ys) h k same = at (λ o. same_numbers xs ys h.1 k.1 (rest_among x y xs ys h.0 k.0 o same))
  where
    at : (x ≡ y → xs ≡ ys) → x ∷ xs ≡ y ∷ ys
    at rest =
        by_order (x ∷ xs ≡ y ∷ ys) x y
        (λ o. no_lower x y xs ys (x ∷ xs ≡ y ∷ ys) k.0 o (same x))
        (λ o. ap (λ n. n ∷ xs) o ∙ ap (λ ns. y ∷ ns) (rest o))
        (λ o. no_lower y x ys xs (x ∷ xs ≡ y ∷ ys) h.0 o (sym (same y)))

less : (m n : ℕ) → nat_cmp m n ≡ Less → m < n
less m n h = grind (arith, nat_tests)

rise_from_sorted : (xs : List ℕ) → IsStrictlySortedBy nat_cmp xs → NumbersRise xs
unfolding IsStrictlySortedBy
rise_from_sorted [] h = tt
rise_from_sorted (x ∷ xs) h = (all_map (λ y. nat_cmp x y ≡ Less) (λ y. x < y) (λ y p. less x y p) xs h.0, rise_from_sorted xs h.1)

-- ---- the identifiers of the map's boxes

met_rise-from : (q : Extent) (P : ℕ → Type 0) (es : Boxes) → AllByRecursion (λ f. P f.0) es → AllByRecursion P (ids_meeting q es)
met_rise-from q P [] h = tt
met_rise-from q P (e ∷ es) h = at (met_rise-from q P es h.1) (extents_meet e.1 q)
  where
    at : AllByRecursion P (ids_meeting q es) → (b : Bool)
        → AllByRecursion P (keys_of (cond b (e ∷ filter (λ f. extents_meet f.1 q) es) (filter (λ f. extents_meet f.1 q) es)))
    at rest true = (h.0, rest)
    at rest false = rest

met_rise : (q : Extent) (es : Boxes) → Rises es → NumbersRise (ids_meeting q es)
met_rise q [] h = tt
met_rise q (e ∷ es) h = at (met_rise q es h.1) (extents_meet e.1 q)
  where
    at : NumbersRise (ids_meeting q es) → (b : Bool)
        → NumbersRise (keys_of (cond b (e ∷ filter (λ f. extents_meet f.1 q) es) (filter (λ f. extents_meet f.1 q) es)))
    at rest true = (met_rise-from q (λ n. e.0 < n) es h.0, rest)
    at rest false = rest

-- whether a box that a look-up gave meets
abbrev does_meet : Extent → Option Extent → Bool
does_meet q None = false
does_meet q (Some x) = extents_meet x q

-- no identifier stands twice
abbrev AreSingle : Boxes → Type 0
AreSingle [] = Unit {0}
AreSingle (e ∷ es) = AllByRecursion (λ f. f.0 ≢ e.0) es × AreSingle es

single-rising : (es : Boxes) → Rises es → AreSingle es
single-rising [] h = tt
single-rising (e ∷ es) h = (all_map (λ f. e.0 < f.0) (λ f. f.0 ≢ e.0) (λ f p q. omega (arith, p, q)) es h.0, single-rising es h.1)

single-pairs : (es : List Boxed) → AreApart es → AreSingle (pairs es)
single-pairs [] h = tt
single-pairs (e ∷ es) h = (ids (λ n. n ≢ e.id) es h.0, single-pairs es h.1)
  where
    ids : (P : ℕ → Type 0) (fs : List Boxed) → AllByRecursion (λ f. P f.id) fs → AllByRecursion (λ f. P f.0) (pairs fs)
    ids P [] k = tt
    ids P (f ∷ fs) k = (k.0, ids P fs k.1)

not_met : (q : Extent) (n : ℕ) (es : Boxes) → AllByRecursion (λ f. f.0 ≢ n) es → list_any (nat_eq n) (ids_meeting q es) ≡ false
not_met q n [] h = refl
not_met q n (e ∷ es) h = at (not_met q n es h.1) (extents_meet e.1 q)
  where
    at : list_any (nat_eq n) (ids_meeting q es) ≡ false → (b : Bool)
        → list_any (nat_eq n) (keys_of (cond b (e ∷ filter (λ f. extents_meet f.1 q) es) (filter (λ f. extents_meet f.1 q) es))) ≡ false
    at rest true = ap (λ b. b || list_any (nat_eq n) (ids_meeting q es)) (ne_eqb n e.0 (λ p. h.0 (sym p))) ∙ rest
    at rest false = rest

-- an identifier is found where the box of its look-up meets
is_met : (q : Extent) (es : Boxes) → AreSingle es → (n : ℕ) → list_any (nat_eq n) (ids_meeting q es) ≡ does_meet q (box_of es n)
is_met q [] h n = refl
is_met q (e ∷ es) h n = at (is_met q es h.1 n) (nat_eq n e.0) (extents_meet e.1 q) refl refl
  where
    at : list_any (nat_eq n) (ids_meeting q es) ≡ does_meet q (box_of es n) → (same meets : Bool) → nat_eq n e.0 ≡ same → extents_meet e.1 q ≡ meets
        → list_any (nat_eq n) (keys_of (cond meets (e ∷ filter (λ f. extents_meet f.1 q) es) (filter (λ f. extents_meet f.1 q) es)))
        ≡ does_meet q (cond same (Some e.1) (box_of es n))
    at rest true true is m = ap (λ b. b || list_any (nat_eq n) (ids_meeting q es)) is ∙ sym m
    at rest true false is m = ap (λ k. list_any (nat_eq k) (ids_meeting q es)) (eqb-true n e.0 is) ∙ not_met q e.0 es h.0 ∙ sym m
    at rest false true is m = ap (λ b. b || list_any (nat_eq n) (ids_meeting q es)) is ∙ rest
    at rest false false is m = rest

among-pairs : (q : Extent) (es : List Boxed) → ids_among q es ≡ ids_meeting q (pairs es)
among-pairs q [] = refl
among-pairs q (e ∷ es) = at (among-pairs q es) (extents_meet e.extent q)
  where
    at : ids_among q es ≡ ids_meeting q (pairs es) → (b : Bool)
        → map (λ f. f.id) (cond b (e ∷ filter (λ f. extents_meet f.extent q) es) (filter (λ f. extents_meet f.extent q) es))
        ≡ keys_of (cond b ((e.id, e.extent) ∷ filter (λ f. extents_meet f.1 q) (pairs es)) (filter (λ f. extents_meet f.1 q) (pairs es)))
    at rest true = ap (λ ns. e.id ∷ ns) rest
    at rest false = rest

distinct_ids : (q : Extent) (es : Boxes) → AreSingle es → IsDistinct nat_eq (ids_meeting q es)
unfolding IsDistinct
distinct_ids q [] h = tt
distinct_ids q (e ∷ es) h = at (distinct_ids q es h.1) (extents_meet e.1 q)
  where
    at : IsDistinct nat_eq (ids_meeting q es) → (b : Bool)
        → IsDistinct nat_eq (keys_of (cond b (e ∷ filter (λ f. extents_meet f.1 q) es) (filter (λ f. extents_meet f.1 q) es)))
    at rest true = (met_rise-from q (λ n. nat_eq e.0 n ≡ false) es (all_map (λ f. f.0 ≢ e.0) (λ f. nat_eq e.0 f.0 ≡ false) (λ f p. ne_eqb e.0 f.0 (λ i. p (sym i))) es h.0), rest)
    at rest false = rest

-- what was collected, sorted
pub found_rising : (q : Extent) (es : List Boxed) (boxes : Boxes) (found sorted : List ℕ) → AreApart es → boxes_of es ≡ boxes → found ≡ ids_among q es
    → IsPermutation found sorted → IsSorted nat_cmp sorted → sorted ≡ ids_meeting q boxes
found_rising q es boxes found sorted apart view is moved up =
    let single : AreSingle (pairs es) = single-pairs es apart in
    let at : found ≡ ids_meeting q (pairs es) = is ∙ among-pairs q es in
    let distinct : IsDistinct nat_eq sorted =
    IsDistinct-IsPermutation nat_eq (λ x y. nat_eq_equiv.symm x y) found sorted moved (subst (IsDistinct nat_eq) (sym at) (distinct_ids q (pairs es) single)) in
    let rise : NumbersRise sorted =
    rise_from_sorted sorted (sorted_from_strictly_increasing sorted (IsStrictlyIncreasing-from_distinct sorted (IsNonDecreasingBy-from_sort (λ n. n) sorted up) distinct)) in
    same_numbers sorted (ids_meeting q (boxes_of es)) rise (met_rise q (boxes_of es) (rises-boxes_of es))
    (λ n. sym (list_any-IsPermutation (nat_eq n) found sorted moved) ∙ ap (list_any (nat_eq n)) at ∙ is_met q (pairs es) single n
    ∙ ap (does_meet q) (sym (box-boxes_of es n)) ∙ sym (is_met q (boxes_of es) (single-rising (boxes_of es) (rises-boxes_of es)) n))
    ∙ ap (ids_meeting q) view
