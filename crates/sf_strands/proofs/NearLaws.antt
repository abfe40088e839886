-- Pairs of edges whose boxes meet: two edges that share a point are such a pair.
use Rattle.std.proofs.Common.{◌≡◌, ℕ, zero, suc, ◌+◌, ◌<◌, ◌≤◌, ◌⊎◌, inl, inr, refl, ap, sym, ◌∙◌, ℤ, pos, subst, arith, Bool, true, false, ◌&&◌, List, [], ◌∷◌, length, drop, get_or, IsTrue, int_le, int_lt}
use Rattle.std.specs.Int.{int_max, int_min}
use Rattle.std.specs.List.{zip}
use Rattle.std.proofs.lemmas.Bool.{and_from, and_parts, cases_lt, or_left, or_right}
use Rattle.std.proofs.lemmas.Int.{ints}
use Rattle.sf_grid.specs.Plane.{Coordinates, IsPoint, Point, grid_point, x_of, y_of}
use Rattle.sf_grid.specs.Edge.{Edge, cross}
use Rattle.sf_grid.proofs.ApartLaws.{apart-one_sided, are_apart, no_shared_number}
use Rattle.sf_grid.proofs.CallerLemmas.{lies}
use Rattle.sf_geometry.specs.Lists.{edges_of, is_closed}
use Rattle.sf_geometry.specs.Envelope.{extents_meet}
use Rattle.sf_edge_tree.specs.declared.outcome.Outcome.{Outcome}
use Rattle.sf_edge_tree.specs.Boxes.{edge_at as ends_at, extent_at_edge, extent_of_edge}
use Rattle.sf_edge_tree.specs.Searches.{Answers, AreTwoOf, HasPair}
use Rattle.sf_edge_tree.proofs.PairLaws.{answers-as}
use Rattle.sf_valid_rules.specs.Conditions.{Applies, AtPoint}
use Rattle.sf_valid_rules.specs.Shapes.{meets_itself, on_both}
use Rattle.sf_strands.specs.Beside.{AreBeside, is_left, is_right}
use Rattle.sf_strands.specs.Pairs.{edge_at, pair_meets, point_of}
use Rattle.sf_strands.specs.Tight.{IsTight}
use Rattle.sf_strands.proofs.NumberedLaws.{meet_apart}
use Rattle.sf_strands.proofs.PairLaws.{HasTwo, any_edge, pair-found, pair-is, two-from}
use Rattle.sf_strands.proofs.PlaceLaws.{differ, edges-more, others, read-is}

-- ---- boxes of edges that share a point
not_true : (b : Bool) → (b ≡ true → ⊥) → b ≡ false
not_true true n = absurd (n refl)
not_true false n = refl

ranges : (a b c d : ℤ) → are_apart a b c d ≡ false → IsTrue (int_le (int_max (int_min c d) (int_min a b)) (int_min (int_max c d) (int_max a b)))
ranges a b c d h = grind (arith, ints)

pub shared-near : (e f : Edge) (p : Point) → IsPoint p → on_both e f p ≡ true → IsTrue (extents_meet (extent_of_edge (f.a, f.b)) (extent_of_edge (e.a, e.b)))
shared-near e f p is h =
    let parts = and_parts _ _ h in
    let first = lies e p parts.0 in
    let second = lies f p parts.1 in
    and_from _ _
    (ranges e.a.x e.b.x f.a.x f.b.x (not_true _ (λ t. no_shared_number e.a.x e.b.x f.a.x f.b.x (x_of p) is.positive t first.x second.x)))
    (ranges e.a.y e.b.y f.a.y f.b.y (not_true _ (λ t. no_shared_number e.a.y e.b.y f.a.y f.b.y (y_of p) is.positive t first.y second.y)))

-- ---- the edges of a list of points, by their ends
next-is : (i : ℕ) → suc i + 1 ≡ suc (i + 1)
next-is i = omega arith

ends-from : (p : Coordinates) (ps : List Coordinates) (i : ℕ) → i < length ps → ends_at (zip (p ∷ ps) ps) i ≡ (point_of (p ∷ ps) i, point_of (p ∷ ps) (i + 1))
ends-from p [] i h = absurd (omega (arith, h))
ends-from p (q ∷ qs) zero h = refl
ends-from p (q ∷ qs) (suc i) h =
    ends-from q qs i (omega (arith, h)) ∙ ap (λ n. (point_of (q ∷ qs) i, point_of (p ∷ q ∷ qs) n)) (sym (next-is i))

pub ends-are : (ps : List Coordinates) (i : ℕ) → i + 1 < length ps → ends_at (zip ps (drop 1 ps)) i ≡ (point_of ps i, point_of ps (i + 1))
ends-are [] i h = absurd (omega (arith, h))
ends-are (p ∷ ps) i h = ends-from p ps i (omega (arith, h))

zip-length : (p : Coordinates) (ps : List Coordinates) → length (zip (p ∷ ps) ps) ≡ length ps
zip-length p [] = refl
zip-length p (q ∷ qs) = ap suc (zip-length q qs)

pub within-ends : (ps : List Coordinates) (i : ℕ) → i < length (zip ps (drop 1 ps)) → i + 1 < length ps
within-ends [] i h = absurd (omega (arith, h))
within-ends (p ∷ ps) i h = omega (arith, h, zip-length p ps)

pub ends-within : (ps : List Coordinates) (i : ℕ) → i + 1 < length ps → i < length (zip ps (drop 1 ps))
ends-within [] i h = absurd (omega (arith, h))
ends-within (p ∷ ps) i h = omega (arith, h, zip-length p ps)

-- ---- pairs
abbrev pub PairMeets : List Coordinates → ℕ → ℕ → Type 0
PairMeets ps i j = Applies (AtPoint (pair_meets ps i j))

near-at : (ps : List Coordinates) (i j : ℕ) → i < j → j + 1 < length ps → IsTrue (extents_meet (extent_of_edge (point_of ps j, point_of ps (j + 1))) (extent_of_edge (point_of ps i, point_of ps (i + 1))))
    → IsTrue (extents_meet (extent_at_edge (zip ps (drop 1 ps)) j) (extent_at_edge (zip ps (drop 1 ps)) i))
near-at ps i j o h near =
    subst (λ e. IsTrue (extents_meet (extent_at_edge (zip ps (drop 1 ps)) j) (extent_of_edge e))) (sym (ends-are ps i (omega (arith, o, h))))
    (subst (λ e. IsTrue (extents_meet (extent_of_edge e) (extent_of_edge (point_of ps i, point_of ps (i + 1))))) (sym (ends-are ps j h)) near)

pair-there : (ps : List Coordinates) → IsTight ps → Applies (AtPoint (meets_itself ps)) → HasPair (zip ps (drop 1 ps)) (zip ps (drop 1 ps)) (AreTwoOf (zip ps (drop 1 ps))) (PairMeets ps)
pair-there ps t (p, is, m) = found (two-from (meet_apart (is_closed ps) (length (edges_of ps)) p) 0 (edges_of ps) any_edge m)
  where
    found : HasTwo (meet_apart (is_closed ps) (length (edges_of ps)) p) 0 (edges_of ps) any_edge → HasPair (zip ps (drop 1 ps)) (zip ps (drop 1 ps)) (AreTwoOf (zip ps (drop 1 ps))) (PairMeets ps)
    found two =
        let within : two.second + 1 < length ps = omega (arith, two.within, edges-more ps t (omega (arith, two.within))) in
        let meets : pair_meets ps two.first two.second p ≡ true = sym (pair-is ps p two.first two.second t two.in_order within) ∙ two.passes in
        record {
          first = two.first;
          second = two.second;
          asked = (two.in_order, ends-within ps two.second within);
          near = near-at ps two.first two.second two.in_order within (shared-near (edge_at ps two.first) (edge_at ps two.second) p is (and_parts _ _ meets).0);
          passes = (p, is, meets);
        }

pair-gives : (ps : List Coordinates) → IsTight ps → HasPair (zip ps (drop 1 ps)) (zip ps (drop 1 ps)) (AreTwoOf (zip ps (drop 1 ps))) (PairMeets ps) → Applies (AtPoint (meets_itself ps))
pair-gives ps t m = (pair-found ps m.first m.second t m.asked.0 (within-ends ps m.second m.asked.1) m.passes).0 refl

-- what a search for a pair says of the whole
pub near-answers : (ps : List Coordinates) (edges : List (Coordinates × Coordinates)) (r : Outcome) → IsTight ps → edges ≡ zip ps (drop 1 ps) → Answers (HasPair edges edges (AreTwoOf edges) (PairMeets ps)) r
    → Answers (Applies (AtPoint (meets_itself ps))) r
near-answers ps edges r t is a =
    answers-as r (pair-gives ps t) (pair-there ps t) (subst (λ es. Answers (HasPair es es (AreTwoOf es) (PairMeets ps)) r) is a)

-- ---- edges between points on one side of an edge's line
clear-left : (ps : List Coordinates) (i j : ℕ) → IsTight ps → j + 1 < length ps → IsTrue (is_left (point_of ps i) (point_of ps (i + 1)) (point_of ps j)) → IsTrue (is_left (point_of ps i) (point_of ps (i + 1)) (point_of ps (j + 1))) → ¬ (PairMeets ps i j)
clear-left ps i j t h from to (p, is, m) =
    let both = and_parts _ _ (and_parts _ _ m).0 in
    apart-one_sided (edge_at ps j) (edge_at ps i) (differ _ _ (others ps j t h)) (or_left _ _ (and_from _ _ from to)) p is (both.1, both.0)

clear-right : (ps : List Coordinates) (i j : ℕ) → IsTight ps → j + 1 < length ps → IsTrue (is_right (point_of ps i) (point_of ps (i + 1)) (point_of ps j)) → IsTrue (is_right (point_of ps i) (point_of ps (i + 1)) (point_of ps (j + 1))) → ¬ (PairMeets ps i j)
clear-right ps i j t h from to (p, is, m) =
    let both = and_parts _ _ (and_parts _ _ m).0 in
    apart-one_sided (edge_at ps j) (edge_at ps i) (differ _ _ (others ps j t h)) (or_right (int_lt (pos 0) (cross (point_of ps i) (point_of ps (i + 1)) (grid_point (point_of ps j))) && int_lt (pos 0) (cross (point_of ps i) (point_of ps (i + 1)) (grid_point (point_of ps (j + 1))))) _ (and_from _ _ from to)) p is (both.1, both.0)

pub clear-beside : (ps : List Coordinates) (i start end : ℕ) → IsTight ps → end < length ps → AreBeside ps i start end → (j : ℕ) → start ≤ j → j < end → ¬ (PairMeets ps i j)
clear-beside ps i start end t h (inl all) j from to = clear-left ps i j t (omega (arith, h, to)) (all j from (omega (arith, to))) (all (j + 1) (omega (arith, from)) (omega (arith, to)))
clear-beside ps i start end t h (inr all) j from to = clear-right ps i j t (omega (arith, h, to)) (all j from (omega (arith, to))) (all (j + 1) (omega (arith, from)) (omega (arith, to)))

-- one point more is on the side
pub side-more : (test : Coordinates → Coordinates → Coordinates → Bool) (ps : List Coordinates) (i from n : ℕ) (a b p : Coordinates) (r : Bool) → i + 1 < length ps → n < length ps
    → a ≡ get_or ps i a → b ≡ get_or ps (i + 1) b → p ≡ get_or ps n p → r ≡ test a b p → r ≡ true
    → ((k : ℕ) → from ≤ k → k < n → IsTrue (test (point_of ps i) (point_of ps (i + 1)) (point_of ps k)))
    → (k : ℕ) → from ≤ k → k < n + 1 → IsTrue (test (point_of ps i) (point_of ps (i + 1)) (point_of ps k))
side-more test ps i from n a b p r h l first second third is told before k low high = by (cases_lt k n)
  where
    here : test (point_of ps i) (point_of ps (i + 1)) (point_of ps n) ≡ true
    here =
        ap (λ q. test q (point_of ps (i + 1)) (point_of ps n)) (read-is ps i a (omega (arith, h)) first) ∙ ap (λ q. test a q (point_of ps n)) (read-is ps (i + 1) b h second)
        ∙ ap (test a b) (read-is ps n p l third) ∙ sym is ∙ told

    by : (k < n) ⊎ (n ≤ k) → IsTrue (test (point_of ps i) (point_of ps (i + 1)) (point_of ps k))
    by (inl m) = before k low m
    by (inr m) =
        let at : n ≡ k = omega (arith, m, high) in
        subst (λ j. IsTrue (test (point_of ps i) (point_of ps (i + 1)) (point_of ps j))) at here
