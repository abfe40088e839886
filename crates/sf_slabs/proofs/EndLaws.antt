-- Where pieces begin and end: their ends, their vertices, and the numbers of those that pass a test.
use Rattle.std.proofs.Common.{◌≡◌, refl, ap, sym, ◌∙◌, subst, ℕ, zero, suc, ◌+◌, ◌<◌, ℤ, pos, ◌*ℤ◌, arith, Bool, true, false, cond, ◌&&◌, ◌==◌, List, [], ◌∷◌, Some, None, ◌⊎◌, inl, inr}
use Rattle.std.specs.Prelude.{if◌then◌else◌, int_le, int_lt}
use Rattle.std.specs.List.{AllByRecursion, flat_map, sum_by}
use Rattle.std.proofs.lemmas.Bool.{and_from, and_parts, cases_Bool, eq-eqb, eqb-true}
use Rattle.std.proofs.lemmas.Int.{ints}
use Rattle.std.proofs.lemmas.List.Sums.{sum_by-cons}
use Rattle.sf_grid.specs.Fraction.{Fraction, IsFraction, fraction_eq, fraction_le, fraction_lt, whole}
use Rattle.sf_grid.specs.Plane.{Coordinates}
use Rattle.sf_grid.specs.Edge.{edge_between, is_vertical, left_end, right_end}
use Rattle.sf_grid.proofs.CallerLemmas.{eq_from_test, ge_from_test, same_tests, test_from_le}
use Rattle.sf_strips.specs.declared.piece.Piece.{Piece}
use Rattle.sf_strips.specs.declared.piece.Piece.TheVariants.{Dot, Edge}
use Rattle.sf_strips.specs.declared.active.Active.{Active}
use Rattle.sf_strips.specs.declared.vertex.Vertex.{Vertex}
use Rattle.sf_strips.specs.declared.vertex.Role.TheVariants.{Begin, Bottom, End, Top}
use Rattle.sf_cells.specs.Cells.{numbers_from}
use Rattle.sf_strips.specs.Fronts.{IsEntry, IsEntryIn, IsRun, SameNumbers, pieces_of}
use Rattle.sf_cells.specs.Pieces.{ends_of}
use Rattle.sf_strips.specs.Slanted.{rightward_edge}
use Rattle.sf_strips.specs.Vertices.{all_vertices, lower_end, piece_at, upper_end, vertex, vertices_of}
use Rattle.sf_slabs.proofs.AboveLaws.{passes}
use Rattle.sf_slabs.proofs.CellLaws.{AgreeOn, numbers_from-agree}
use Rattle.sf_slabs.proofs.FollowLaws.{Runs, le_le-places, le_lt-places, lt_le-places, not_le-lt}
use Rattle.sf_slabs.proofs.NumberLaws.{rising_order}
use Rattle.sf_slabs.proofs.Shapes.{AreVertices, comes_to, in_column}
use Rattle.sf_slabs.proofs.EventLaws.{Some_in}
use Rattle.sf_slabs.proofs.EachLaws.{each-append, each-map, each-parts}

-- ---- pieces and their ends
-- an end right of x is at y or further right
abbrev pub Later : Fraction → Fraction → Fraction → Type 0
Later x y q = fraction_lt x q ≡ true → fraction_le y q ≡ true

-- nothing of the pieces begins or ends strictly between x and y
abbrev pub NoEndBetween : List Piece → Fraction → Fraction → Type 0
NoEndBetween pieces x y = AllByRecursion (λ p. AllByRecursion (Later x y) (ends_of p)) pieces

pub Each-ends : (P : Fraction → Type 0) (ps : List Piece) → AllByRecursion (λ p. AllByRecursion P (ends_of p)) ps → AllByRecursion P (flat_map ends_of ps)
Each-ends P [] h = tt
Each-ends P (p ∷ ps) h = each-append P (ends_of p) (flat_map ends_of ps) h.0 (Each-ends P ps h.1)

-- what holds of both ends holds of the left one and of the right one
pub Each-left : (P : Fraction → Type 0) (a b : Coordinates) → AllByRecursion P (ends_of (Edge a b)) → P (whole (left_end (edge_between a b)).x)
Each-left P a b h = by_test (int_lt b.x a.x)
  where
    by_test : (t : Bool) → P (whole (cond t b a).x)
    by_test true = h.1.0
    by_test false = h.0

pub Each-right : (P : Fraction → Type 0) (a b : Coordinates) → AllByRecursion P (ends_of (Edge a b)) → P (whole (right_end (edge_between a b)).x)
Each-right P a b h = by_test (int_lt b.x a.x)
  where
    by_test : (t : Bool) → P (whole (cond t a b).x)
    by_test true = h.0
    by_test false = h.1.0

-- ---- the vertices of pieces are at their ends
pub vertices_at-ends : (P : Fraction → Type 0) (i : ℕ) (p : Piece) → AllByRecursion P (ends_of p) → AllByRecursion (λ v. P (whole v.at.x)) (vertices_of i p)
vertices_at-ends P i (Dot a) h = (h.0, tt)
vertices_at-ends P i (Edge a b) h = by_test (is_vertical (edge_between a b))
  where
    upper : (t : Bool) → P (whole (cond t b a).x)
    upper true = h.1.0
    upper false = h.0

    lower : (t : Bool) → P (whole (cond t a b).x)
    lower true = h.0
    lower false = h.1.0

    by_test : (t : Bool) → AllByRecursion (λ v. P (whole v.at.x))
        (if t
        then vertex (upper_end (edge_between a b)) Top i ∷ vertex (lower_end (edge_between a b)) Bottom i ∷ []
        else vertex (left_end (edge_between a b)) (Begin (rightward_edge (edge_between a b))) i ∷ vertex (right_end (edge_between a b)) End i ∷ [])
    by_test true = (upper (int_lt a.y b.y), (lower (int_lt a.y b.y), tt))
    by_test false = (Each-left P a b h, (Each-right P a b h, tt))

ends_at-vertices : (P : Fraction → Type 0) (i : ℕ) (p : Piece) → AllByRecursion (λ v. P (whole v.at.x)) (vertices_of i p) → AllByRecursion P (ends_of p)
ends_at-vertices P i (Dot a) h = (h.0, tt)
ends_at-vertices P i (Edge a b) h = by_test (is_vertical (edge_between a b)) h
  where
    either : (t : Bool) → P (whole (cond t b a).x) → P (whole (cond t a b).x) → P (whole a.x) × (P (whole b.x) × Unit {0})
    either true k l = (l, (k, tt))
    either false k l = (k, (l, tt))

    by_test : (t : Bool) → AllByRecursion (λ v. P (whole v.at.x))
        (if t
        then vertex (upper_end (edge_between a b)) Top i ∷ vertex (lower_end (edge_between a b)) Bottom i ∷ []
        else vertex (left_end (edge_between a b)) (Begin (rightward_edge (edge_between a b))) i ∷ vertex (right_end (edge_between a b)) End i ∷ []) →
        P (whole a.x) × (P (whole b.x) × Unit {0})
    by_test true k = either (int_lt a.y b.y) k.0 k.1.0
    by_test false k = either (int_lt b.x a.x) k.0 k.1.0

pub all_vertices-ends : (P : Fraction → Type 0) (k : ℕ) (ps : List Piece) → AllByRecursion (λ p. AllByRecursion P (ends_of p)) ps →
    AllByRecursion (λ v. P (whole v.at.x)) (all_vertices k ps)
all_vertices-ends P k [] h = tt
all_vertices-ends P k (p ∷ ps) h =
    each-append (λ v. P (whole v.at.x)) (vertices_of k p) (all_vertices (k + 1) ps) (vertices_at-ends P k p h.0) (all_vertices-ends P (k + 1) ps h.1)

pub ends-all_vertices : (P : Fraction → Type 0) (k : ℕ) (ps : List Piece) → AllByRecursion (λ v. P (whole v.at.x)) (all_vertices k ps) →
    AllByRecursion (λ p. AllByRecursion P (ends_of p)) ps
ends-all_vertices P k [] h = tt
ends-all_vertices P k (p ∷ ps) h =
    let parts = each-parts (λ v. P (whole v.at.x)) (vertices_of k p) (all_vertices (k + 1) ps) h in
    (ends_at-vertices P k p parts.0, ends-all_vertices P (k + 1) ps parts.1)

-- ---- sums of weights of vertices
no_sum : (m n : ℕ) → m + n ≡ 0 → (m ≡ 0) × (n ≡ 0)
no_sum m n h = (omega arith, omega arith)

sum_zero : (weight : Vertex → ℕ) (vs : List Vertex) → AllByRecursion (λ v. weight v ≡ 0) vs → sum_by weight vs ≡ 0
sum_zero weight [] h = refl
sum_zero weight (v ∷ vs) h = sum_by-cons weight v vs ∙ ap (λ n. n + sum_by weight vs) h.0 ∙ ap (λ n. 0 + n) (sum_zero weight vs h.1)

zero_sum : (weight : Vertex → ℕ) (vs : List Vertex) → sum_by weight vs ≡ 0 → AllByRecursion (λ v. weight v ≡ 0) vs
zero_sum weight [] h = tt
zero_sum weight (v ∷ vs) h =
    let parts = no_sum (weight v) (sum_by weight vs) (sym (sum_by-cons weight v vs) ∙ h) in
    (parts.0, zero_sum weight vs parts.1)

-- no weight where a test passes
none_of : (b : Bool) (n : ℕ) → b ≡ true → (if b then 0 else n) ≡ 0
none_of true n h = refl
none_of false n h = cc

passed_by : (t g : Bool) → ◌≡◌ {A = ℕ} (if t then (if g then 0 else 1) else 0) 0 → t ≡ true → g ≡ true
passed_by true true h e = refl
passed_by true false h e = cc
passed_by false g h e = cc

-- what passes a test at all vertices of the list passes it at all vertices of the pieces that it lists
pub all_good : (pieces : List Piece) (test good : Vertex → Bool) (vs : List Vertex) → AreVertices pieces test vs → AllByRecursion (λ v. good v ≡ true) vs →
    AllByRecursion (λ v. test v ≡ true → good v ≡ true) (all_vertices 0 pieces)
all_good pieces test good vs h k =
    each-map (λ v. (if test v then (if good v then 0 else 1) else 0) ≡ 0) (λ v. test v ≡ true → good v ≡ true) (all_vertices 0 pieces)
    (λ v e. passed_by (test v) (good v) e)
    (zero_sum (λ v. if test v then (if good v then 0 else 1) else 0) (all_vertices 0 pieces)
    (sym (h (λ v. if good v then 0 else 1))
    ∙ sum_zero (λ v. if good v then 0 else 1) vs
    (each-map (λ v. good v ≡ true) (λ v. (if good v then 0 else 1) ≡ 0) vs (λ v e. none_of (good v) 1 e) k)))

-- where no vertex passes the test, the list is that of none
pub no_vertices : (pieces : List Piece) (test : Vertex → Bool) → AllByRecursion (λ v. test v ≡ false) (all_vertices 0 pieces) → AreVertices pieces test []
no_vertices pieces test h weight =
    sym (sum_zero (λ v. if test v then weight v else 0) (all_vertices 0 pieces)
    (each-map (λ v. test v ≡ false) (λ v. (if test v then weight v else 0) ≡ 0) (all_vertices 0 pieces) (λ v e. failed (test v) (weight v) e) h))
  where
    failed : (b : Bool) (n : ℕ) → b ≡ false → (if b then n else 0) ≡ 0
    failed true n e = cc
    failed false n e = refl

-- ---- pieces by their numbers
-- the piece with the number i passes a test
abbrev pub passes_at : (Piece → Bool) → List Piece → ℕ → Bool
passes_at test [] i = false
passes_at test (p ∷ ps) zero = test p
passes_at test (p ∷ ps) (suc i) = passes_at test ps i

sum_chosen : (weight : ℕ → ℕ) (k : ℕ) (ns : List ℕ) (b : Bool) → (b ≡ true → weight k ≡ 0) → sum_by weight ns ≡ 0 → sum_by weight (if b then k ∷ ns else ns) ≡ 0
sum_chosen weight k ns true h e = sum_by-cons weight k ns ∙ ap (λ n. n + sum_by weight ns) (h refl) ∙ ap (λ n. 0 + n) e
sum_chosen weight k ns false h e = e

no_weight : (good : ℕ → Bool) (test : Piece → Bool) (k : ℕ) (ps : List Piece) → ((i : ℕ) → passes_at test ps i ≡ true → good (k + i) ≡ true) →
    sum_by (λ i. if good i then 0 else 1) (numbers_from k test ps) ≡ 0
no_weight good test k [] h = refl
no_weight good test k (p ∷ ps) h =
    sum_chosen (λ i. if good i then 0 else 1) k (numbers_from (k + 1) test ps) (test p)
    (λ e. none_of (good k) 1 (ap good (sym (plain k)) ∙ h 0 e))
    (no_weight good test (k + 1) ps (λ i e. ap good (shifted k i) ∙ h (suc i) e))
  where
    plain : (n : ℕ) → n + 0 ≡ n
    plain n = omega arith

    shifted : (m n : ℕ) → (m + 1) + n ≡ m + suc n
    shifted m n = omega arith

each_good : (good : ℕ → Bool) (os : List Active) → sum_by (λ i. if good i then 0 else 1) (pieces_of os) ≡ 0 → AllByRecursion (λ a. good a.piece ≡ true) os
each_good good [] h = tt
each_good good (a ∷ os) h =
    let parts = no_sum (if good a.piece then 0 else 1) (sum_by (λ i. if good i then 0 else 1) (pieces_of os))
    (sym (sum_by-cons (λ i. if good i then 0 else 1) a.piece (pieces_of os)) ∙ h) in
    (passed (good a.piece) parts.0, each_good good os parts.1)
  where
    passed : (b : Bool) → ◌≡◌ {A = ℕ} (if b then 0 else 1) 0 → b ≡ true
    passed true e = refl
    passed false e = cc

-- edges whose pieces are just those that pass a test: each of their pieces passes it
pub each_passes : (pieces : List Piece) (test : Piece → Bool) (os : List Active) → SameNumbers (pieces_of os) (numbers_from 0 test pieces) →
    AllByRecursion (λ a. passes_at test pieces a.piece ≡ true) os
each_passes pieces test os h =
    each_good (passes_at test pieces) os
    (h (λ i. if passes_at test pieces i then 0 else 1) ∙ no_weight (passes_at test pieces) test 0 pieces (λ i e. ap (passes_at test pieces) (plain i) ∙ e))
  where
    plain : (n : ℕ) → 0 + n ≡ n
    plain n = omega arith

-- some edge of the list has a property
abbrev pub SomeActive : (Active → Type 0) → List Active → Type 0
SomeActive P [] = ⊥
SomeActive P (a ∷ os) = P a ⊎ SomeActive P os

abbrev is_number : ℕ → ℕ → ℕ
is_number t i = if i == t then 1 else 0

some_with : (t : ℕ) (os : List Active) → 0 < sum_by (is_number t) (pieces_of os) → SomeActive (λ a. a.piece ≡ t) os
some_with t [] h = absurd (omega arith)
some_with t (a ∷ os) h =
    by_test (λ l. some_with t os l) (a.piece == t) refl (subst (λ n. 0 < n) (sum_by-cons (is_number t) a.piece (pieces_of os)) h)
  where
    rest_of : (n : ℕ) → 0 < 0 + n → 0 < n
    rest_of n l = omega arith

    by_test : (0 < sum_by (is_number t) (pieces_of os) → SomeActive (λ b. b.piece ≡ t) os) → (b : Bool) → (a.piece == t) ≡ b →
        0 < (if b then 1 else 0) + sum_by (is_number t) (pieces_of os) → SomeActive (λ b. b.piece ≡ t) (a ∷ os)
    by_test further true e l = inl (eqb-true a.piece t e)
    by_test further false e l = inr (further (rest_of (sum_by (is_number t) (pieces_of os)) l))

counted : (t k i : ℕ) (test : Piece → Bool) (ps : List Piece) → t ≡ k + i → passes_at test ps i ≡ true → 0 < sum_by (is_number t) (numbers_from k test ps)
counted t k i test [] e h = cc
counted t k zero test (p ∷ ps) e h = found (test p) h
  where
    at : k ≡ t
    at = omega arith

    positive : (m n : ℕ) → m ≡ 1 → 0 < m + n
    positive m n l = omega arith

    found : (b : Bool) → b ≡ true → 0 < sum_by (is_number t) (if b then k ∷ numbers_from (k + 1) test ps else numbers_from (k + 1) test ps)
    found true l =
        subst (λ n. 0 < n) (sym (sum_by-cons (is_number t) k (numbers_from (k + 1) test ps)))
        (positive (is_number t k) (sum_by (is_number t) (numbers_from (k + 1) test ps)) (ap (λ b. if b then 1 else 0) (eq-eqb k t at)))
    found false l = cc
counted t k (suc i) test (p ∷ ps) e h = further (test p) (counted t (k + 1) i test ps (e ∙ shifted k i) h)
  where
    shifted : (m n : ℕ) → m + suc n ≡ (m + 1) + n
    shifted m n = omega arith

    more : (m n : ℕ) → 0 < n → 0 < m + n
    more m n l = omega arith

    further : (b : Bool) → 0 < sum_by (is_number t) (numbers_from (k + 1) test ps) →
        0 < sum_by (is_number t) (if b then k ∷ numbers_from (k + 1) test ps else numbers_from (k + 1) test ps)
    further true l =
        subst (λ n. 0 < n) (sym (sum_by-cons (is_number t) k (numbers_from (k + 1) test ps)))
        (more (is_number t k) (sum_by (is_number t) (numbers_from (k + 1) test ps)) l)
    further false l = l

-- each piece that passes the test has an edge
pub some_entry : (pieces : List Piece) (test : Piece → Bool) (os : List Active) (i : ℕ) → SameNumbers (pieces_of os) (numbers_from 0 test pieces) →
    passes_at test pieces i ≡ true → SomeActive (λ a. a.piece ≡ i) os
some_entry pieces test os i h e =
    some_with i os (subst (λ n. 0 < n) (sym (h (is_number i))) (counted i 0 i test pieces (plain i) e))
  where
    plain : (n : ℕ) → n ≡ 0 + n
    plain n = omega arith

-- ---- an edge and its piece
pub record EntryOf (test : Piece → Bool) (P : Piece → Type 0) (a : Active) : Type 0 where
  pub start : Coordinates
  pub end : Coordinates
  pub run : IsRun (edge_between start end) a
  pub passed : test (Edge start end) ≡ true
  pub has : P (Edge start end)

pub entry_of : (test : Piece → Bool) (P : Piece → Type 0) (pieces : List Piece) (i : ℕ) (a : Active) → IsEntryIn (piece_at pieces i) a →
    passes_at test pieces i ≡ true → AllByRecursion P pieces → EntryOf test P a
entry_of test P [] i a h e k = absurd h
entry_of test P (Edge s t ∷ ps) zero a h e k = record { start = s; end = t; run = h; passed = e; has = k.0 }
entry_of test P (Dot s ∷ ps) zero a h e k = absurd h
entry_of test P (p ∷ ps) (suc i) a h e k = entry_of test P ps i a h e k.1

-- ---- edges that go on from x and those that come to a place before the next end
times_one : (m : ℤ) → m *ℤ pos 1 ≡ m
times_one m = omega (arith, ints)

-- the edge begins at x or left of it, and ends right of it
pub passes-places : (x : Fraction) (a b : Coordinates) →
    passes x (Edge a b) ≡ (fraction_le (whole (left_end (edge_between a b)).x) x && fraction_lt x (whole (right_end (edge_between a b)).x))
passes-places x a b =
    ap (λ m. int_le ((left_end (edge_between a b)).x *ℤ pos x.den) m && int_lt x.num ((right_end (edge_between a b)).x *ℤ pos x.den)) (sym (times_one x.num))
    ∙ ap (λ m. int_le ((left_end (edge_between a b)).x *ℤ pos x.den) (x.num *ℤ pos 1) && int_lt m ((right_end (edge_between a b)).x *ℤ pos x.den)) (sym (times_one x.num))

pub whole-number : (n : ℤ) → IsFraction (whole n)
whole-number n = record { positive = omega arith }

-- what isn't above is at most
pub le_of_not_lt : (p q : Fraction) → fraction_lt p q ≡ false → fraction_le q p ≡ true
le_of_not_lt p q h = test_from_le (q.num *ℤ pos p.den) (p.num *ℤ pos q.den) (ge_from_test (p.num *ℤ pos q.den) (q.num *ℤ pos p.den) h)

same_going : (x y z : Fraction) (l r : ℤ) → IsFraction x → IsFraction y → IsFraction z → fraction_lt x z ≡ true → fraction_le z y ≡ true →
    Later x y (whole l) → Later x y (whole r) →
    (fraction_le (whole l) x && fraction_lt x (whole r)) ≡ (fraction_lt (whole l) z && fraction_le z (whole r))
same_going x y z l r i j k m n h o =
    same_tests _ _
    (λ e. let parts = and_parts (fraction_le (whole l) x) (fraction_lt x (whole r)) e in
    and_from _ _ (le_lt-places (whole l) x z (whole-number l) i k parts.0 m) (le_le-places z y (whole r) j n (o parts.1)))
    (λ e. let parts = and_parts (fraction_lt (whole l) z) (fraction_le z (whole r)) e in
    and_from _ _ (begun parts.0) (lt_le-places x z (whole r) i k (whole-number r) m parts.1))
  where
    begun : fraction_lt (whole l) z ≡ true → fraction_le (whole l) x ≡ true
    begun e =
        elim (cases_Bool (fraction_lt x (whole l))) [
          | inl t ↦ absurd (not_le-lt z (whole l) (le_le-places z y (whole l) j n (h t)) e)
          | inr f ↦ le_of_not_lt x (whole l) f
        ]

same_coming : (x y z : Fraction) (p : Piece) → IsFraction x → IsFraction y → IsFraction z → fraction_lt x z ≡ true → fraction_le z y ≡ true →
    AllByRecursion (Later x y) (ends_of p) → passes x p ≡ comes_to z p
same_coming x y z (Edge a b) i j k m n h =
    passes-places x a b
    ∙ same_going x y z (left_end (edge_between a b)).x (right_end (edge_between a b)).x i j k m n (Each-left (Later x y) a b h) (Each-right (Later x y) a b h)
same_coming x y z (Dot a) i j k m n h = refl

-- the edges that go on from x are those that come to a place before the next end
pub coming : (pieces : List Piece) (x y z : Fraction) → IsFraction x → IsFraction y → IsFraction z → fraction_lt x z ≡ true → fraction_le z y ≡ true →
    NoEndBetween pieces x y → numbers_from 0 (passes x) pieces ≡ numbers_from 0 (comes_to z) pieces
coming pieces x y z i j k m n h = numbers_from-agree 0 (passes x) (comes_to z) pieces (agree pieces h)
  where
    agree : (ps : List Piece) → AllByRecursion (λ p. AllByRecursion (Later x y) (ends_of p)) ps → AgreeOn (passes x) (comes_to z) ps
    agree [] e = tt
    agree (p ∷ ps) e = (same_coming x y z p i j k m n e.0, agree ps e.1)

-- no vertex is in a column strictly between
pub none_between : (pieces : List Piece) (x y z : Fraction) → IsFraction x → IsFraction y → IsFraction z → fraction_lt x z ≡ true → fraction_lt z y ≡ true →
    NoEndBetween pieces x y → AreVertices pieces (in_column z) []
none_between pieces x y z i j k m n h =
    no_vertices pieces (in_column z)
    (each-map (λ v. Later x y (whole v.at.x)) (λ v. in_column z v ≡ false) (all_vertices 0 pieces) (λ v l. apart (whole v.at.x) (whole-number v.at.x) l)
    (all_vertices-ends (Later x y) 0 pieces h))
  where
    apart : (q : Fraction) → IsFraction q → Later x y q → fraction_eq q z ≡ false
    apart q o l =
        elim (cases_Bool (fraction_eq q z)) [
          | inl t ↦
              let same = eq_from_test (q.num *ℤ pos z.den) (z.num *ℤ pos q.den) t in
              absurd (not_le-lt y q (l (rising_order.same_second x z q i k o m (sym same))) (rising_order.same_first q z y o k j same n))
          | inr f ↦ f
        ]

-- an edge that goes on from x runs as far as y
pub runs : (pieces : List Piece) (x y : Fraction) (a : Active) → IsEntry pieces a → passes_at (passes x) pieces a.piece ≡ true → NoEndBetween pieces x y → Runs x y a
runs pieces x y a h e k =
    let o = entry_of (passes x) (λ p. AllByRecursion (Later x y) (ends_of p)) pieces a.piece a h e k in
    let parts =
    and_parts (fraction_le (whole (left_end (edge_between o.start o.end)).x) x) (fraction_lt x (whole (right_end (edge_between o.start o.end)).x))
    (sym (passes-places x o.start o.end) ∙ o.passed) in
    record {
      begun = ap (λ (u : Coordinates). fraction_le (whole u.x) x) o.run.left ∙ parts.0;
      lasts = ap (λ (u : Coordinates). fraction_le y (whole u.x)) o.run.right ∙ Each-right (Later x y) o.start o.end o.has parts.1;
    }

-- ---- more on pieces by their numbers
pub each_piece-at : (P : Piece → Type 0) (ps : List Piece) → ((i : ℕ) (p : Piece) → piece_at ps i ≡ Some p → P p) → AllByRecursion P ps
each_piece-at P [] f = tt
each_piece-at P (p ∷ ps) f = (f zero p refl, each_piece-at P ps (λ i q e. f (suc i) q e))

pub each-always : (P : Piece → Type 0) (ps : List Piece) → ((p : Piece) → P p) → AllByRecursion P ps
each-always P [] f = tt
each-always P (p ∷ ps) f = (f p, each-always P ps f)

pub Each-pieces : (P : Fraction → Type 0) (f : Piece → List Fraction) (ps : List Piece) → AllByRecursion (λ p. AllByRecursion P (f p)) ps → AllByRecursion P (flat_map f ps)
Each-pieces P f [] h = tt
Each-pieces P f (p ∷ ps) h = each-append P (f p) (flat_map f ps) h.0 (Each-pieces P f ps h.1)

pub passes_at-piece : (test : Piece → Bool) (ps : List Piece) (i : ℕ) (p : Piece) → piece_at ps i ≡ Some p → test p ≡ true → passes_at test ps i ≡ true
passes_at-piece test [] i p e h = cc
passes_at-piece test (q ∷ ps) zero p e h = ap test (same q p e) ∙ h
  where
    same : (q p : Piece) → Some q ≡ Some p → q ≡ p
    same q p e = cc
passes_at-piece test (q ∷ ps) (suc i) p e h = passes_at-piece test ps i p e h

pub each_piece-found : (P : Piece → Type 0) (ps : List Piece) (i : ℕ) (p : Piece) → piece_at ps i ≡ Some p → AllByRecursion P ps → P p
each_piece-found P [] i p e h = absurd (never p e)
  where
    never : (p : Piece) → None ≡ Some p → ⊥
    never p e = cc
each_piece-found P (q ∷ ps) zero p e h = subst P (same q p e) h.0
  where
    same : (q p : Piece) → Some q ≡ Some p → q ≡ p
    same q p e = cc
each_piece-found P (q ∷ ps) (suc i) p e h = each_piece-found P ps i p e h.1

-- every piece is one of the list
members : (ps all : List Piece) → ((p : Piece) → Some_in (λ r. r ≡ p) ps → Some_in (λ r. r ≡ p) all) → AllByRecursion (λ p. Some_in (λ r. r ≡ p) all) ps
members [] all f = tt
members (p ∷ ps) all f = (f p (inl refl), members ps all (λ q m. f q (inr m)))

pub each_member : (pieces : List Piece) → AllByRecursion (λ p. Some_in (λ r. r ≡ p) pieces) pieces
each_member pieces = members pieces pieces (λ p m. m)
