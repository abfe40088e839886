-- The box of points, and rings apart from it.
use Rattle.std.proofs.Common.{◌≡◌, refl, ap, sym, ◌∙◌, subst, ℤ, pos, ◌*ℤ◌, ◌≤ℤ◌, arith, Bool, true, false, ◌&&◌, not, List, [], ◌∷◌}
use Rattle.std.specs.Prelude.{None, Some, fold, int_le, if◌then◌else◌}
use Rattle.std.specs.Int.{int_max, int_min}
use Rattle.std.specs.List.{AllByRecursion}
use Rattle.std.proofs.lemmas.Bool.{and_from, and_parts, both_ways}
use Rattle.std.proofs.lemmas.Int.{clamps, ints}
use Rattle.std.proofs.lemmas.List.Elements.{All-from_recursion}
use Rattle.sf_grid.specs.Plane.{Coordinates, IsPoint, Point, grid_point}
use Rattle.sf_grid.specs.Edge.{edge_between}
use Rattle.sf_grid.specs.EvenOdd.{edges_above, is_odd}
use Rattle.sf_grid.proofs.CallerLemmas.{test_from_le}
use Rattle.sf_slabs.proofs.CallerLemmas.{each-map}
use Rattle.sf_geometry.specs.declared.extent.Extent.{Extent}
use Rattle.sf_geometry.specs.Envelope.{extent_at, extent_with, extents_meet, grown}
use Rattle.sf_geometry.specs.Lists.{before_tight, edges_between, edges_from, edges_of, is_closed, is_same, tight}
use Rattle.sf_geometry.specs.PointSets.{in_ring, on_line}
use Rattle.sf_geometry.proofs.ListLaws.{edges-step, not-true}
use Rattle.sf_plane.specs.Boxes.{Box, HasEnds, boxes_meet, in_box}
use Rattle.sf_plane.proofs.BoxLaws.{common_point_meets, ring_in_box}
use Rattle.sf_interiors.proofs.RingLaws.{ring-chain}
use Rattle.sf_interiors.specs.Paths.{IsOffBox}
use Rattle.sf_ring_stretches.specs.Exchange.{AreIn}
use Rattle.sf_ring_stretches.proofs.PointLaws.{boxes_apart_are_off}
use Rattle.sf_validity.specs.Beside.{IsApart, box_of_extent, stood}

-- ---- boxes of points
record HasPoint (e : Extent) (p : Coordinates) : Type 0 where
  left : e.min_x ≤ℤ p.x
  right : p.x ≤ℤ e.max_x
  low : e.min_y ≤ℤ p.y
  high : p.y ≤ℤ e.max_y

some_same : {X : Type 0} {a b : X} → Some a ≡ Some b → a ≡ b
some_same e = cc

at-own : (p : Coordinates) → HasPoint (extent_at p) p
at-own p = record { left = omega (arith, ints); right = omega (arith, ints); low = omega (arith, ints); high = omega (arith, ints) }

with-own : (e : Extent) (p : Coordinates) → HasPoint (extent_with e p) p
with-own e p = record { left = omega (arith, ints, clamps); right = omega (arith, ints, clamps); low = omega (arith, ints, clamps); high = omega (arith, ints, clamps) }

lesser-keeps : (m n z : ℤ) → m ≤ℤ z → int_min m n ≤ℤ z
lesser-keeps m n z h = omega (arith, ints, clamps)

greater-keeps : (m n z : ℤ) → z ≤ℤ m → z ≤ℤ int_max m n
greater-keeps m n z h = omega (arith, ints, clamps)

with-keeps : (e : Extent) (p q : Coordinates) → HasPoint e p → HasPoint (extent_with e q) p
with-keeps e p q h = record {
  left = lesser-keeps e.min_x q.x p.x h.left;
  right = greater-keeps e.max_x q.x p.x h.right;
  low = lesser-keeps e.min_y q.y p.y h.low;
  high = greater-keeps e.max_y q.y p.y h.high;
}

fold-keeps : (ps : List Coordinates) (e own : Extent) (p : Coordinates) → HasPoint e p → fold grown (Some e) ps ≡ Some own → HasPoint own p
fold-keeps [] e own p h is = subst (λ o. HasPoint o p) (some_same is) h
fold-keeps (q ∷ ps) e own p h is = fold-keeps ps (extent_with e q) own p (with-keeps e p q h) is

fold-each : (ps : List Coordinates) (e own : Extent) → fold grown (Some e) ps ≡ Some own → AllByRecursion (HasPoint own) ps
fold-each [] e own is = tt
fold-each (q ∷ ps) e own is = (fold-keeps ps (extent_with e q) own q (with-own e q) is, fold-each ps (extent_with e q) own is)

points-each : (ps : List Coordinates) (own : Extent) → fold grown None ps ≡ Some own → AllByRecursion (HasPoint own) ps
points-each [] own is = tt
points-each (q ∷ ps) own is = (fold-keeps ps (extent_at q) own q (at-own q) is, fold-each ps (extent_at q) own is)

box-has : (e : Extent) (p : Coordinates) → HasPoint e p → in_box (box_of_extent e) (grid_point p) ≡ true
box-has e p h = and_from _ _ (within e.min_x e.max_x p.x h.left h.right) (within e.min_y e.max_y p.y h.low h.high)
  where
    within : (m n z : ℤ) → m ≤ℤ z → z ≤ℤ n → (int_le (m *ℤ pos 1) z && int_le z (n *ℤ pos 1)) ≡ true
    within m n z h k = and_from _ _ (test_from_le (m *ℤ pos 1) z (omega (arith, ints))) (test_from_le z (n *ℤ pos 1) (omega (arith, ints)))

pub points-in : (ps : List Coordinates) (own : Extent) → fold grown None ps ≡ Some own → AreIn (box_of_extent own) ps
points-in ps own is = each-map (HasPoint own) (λ p. in_box (box_of_extent own) (grid_point p) ≡ true) ps (box-has own) (points-each ps own is)

pub points-in-more : (ps : List Coordinates) (own : Extent) (q : Coordinates) → fold grown None ps ≡ Some own → AreIn (box_of_extent (extent_with own q)) ps
points-in-more ps own q is =
    each-map (HasPoint own) (λ p. in_box (box_of_extent (extent_with own q)) (grid_point p) ≡ true) ps
    (λ p h. box-has (extent_with own q) p (with-keeps own p q h)) (points-each ps own is)

pub more-in : (own : Extent) (q : Coordinates) → AreIn (box_of_extent (extent_with own q)) (stood (Some q))
more-in own q = (box-has (extent_with own q) q (with-own own q), tt)

-- ---- the edges of points in a box
before-in : (box : Box) (p : Coordinates) (ts : List Coordinates) → in_box box (grid_point p) ≡ true → AreIn box ts → AreIn box (before_tight p ts)
before-in box p [] h k = (h, tt)
before-in box p (q ∷ qs) h k = by_test (is_same p q)
  where
    by_test : (c : Bool) → AreIn box (if c then q ∷ qs else p ∷ q ∷ qs)
    by_test true = k
    by_test false = (h, k)

tight-in : (box : Box) (ps : List Coordinates) → AreIn box ps → AreIn box (tight ps)
tight-in box [] h = tt
tight-in box (p ∷ ps) h = before-in box p (tight ps) h.0 (tight-in box ps h.1)

from-in : (box : Box) (p : Coordinates) (ps : List Coordinates) → in_box box (grid_point p) ≡ true → AreIn box ps → AllByRecursion (HasEnds box) (edges_from p ps)
from-in box p [] h k = tt
from-in box p (q ∷ qs) h k = ((h, k.0), from-in box q qs k.0 k.1)

between-in : (box : Box) (ts : List Coordinates) → AreIn box ts → AllByRecursion (HasEnds box) (edges_between ts)
between-in box [] h = tt
between-in box (p ∷ ps) h = from-in box p ps h.0 h.1

edges-in : (box : Box) (ps : List Coordinates) → AreIn box ps → AllByRecursion (HasEnds box) (edges_of ps)
edges-in box ps h = between-in box (tight ps) (tight-in box ps h)

-- ---- rings apart
none-inside : (own box : Box) (ps : List Coordinates) → AllByRecursion (HasEnds own) (edges_of ps) → boxes_meet own box ≡ false → is_closed ps ≡ true
    → (p : Point) → IsPoint p → in_box box p ≡ true → in_ring ps p ≡ false
none-inside own box ps ends apart closed p i inside = by_test (in_ring ps p) refl
  where
    by_test : (t : Bool) → in_ring ps p ≡ t → t ≡ false
    by_test false is = refl
    by_test true is =
        absurd (both_ways (boxes_meet own box) apart
        (common_point_meets own box p i
        (ring_in_box own (edges_of ps) p (ring-chain ps closed) (All-from_recursion (HasEnds own) (edges_of ps) ends) i
        (and_parts (not (on_line ps p)) (is_odd (edges_above p (edges_of ps))) is).1)
        inside))

pub apart : (ps : List Coordinates) (own extent : Extent) → fold grown None ps ≡ Some own → not (extents_meet own extent) ≡ true → IsApart (box_of_extent extent) ps
apart ps own extent is test =
    let ends : AllByRecursion (HasEnds (box_of_extent own)) (edges_of ps) = edges-in (box_of_extent own) ps (points-in ps own is) in
    let off : boxes_meet (box_of_extent own) (box_of_extent extent) ≡ false = not-true (extents_meet own extent) test in
    record {
      off = boxes_apart_are_off (box_of_extent own) (box_of_extent extent) (edges_of ps) ends off;
      empty = none-inside (box_of_extent own) (box_of_extent extent) ps ends off;
    }

pub none-apart : (ps : List Coordinates) (box : Box) → fold grown None ps ≡ None → IsApart box ps
none-apart [] box is = record { off = tt; empty = λ closed p i inside. refl }
none-apart (q ∷ ps) box is = absurd (never ps (extent_at q) is)
  where
    never : (ps : List Coordinates) (e : Extent) → fold grown (Some e) ps ≡ None → ⊥
    never [] e is = cc
    never (r ∷ ps) e is = never ps (extent_with e r) is

-- ---- loops
-- one more member has what those that are left are to have
pub each-next : {X : Type 0} (P : X → Type 0) (whole : Type 0) (x : X) (left all : List X) → all ≡ x ∷ left → P x → (AllByRecursion P all → whole) → AllByRecursion P left → whole
each-next P whole x left all is here rest h = rest (subst (AllByRecursion P) (sym is) (here, h))

first-off : (box : Box) (p q : Coordinates) (qs : List Coordinates) → IsApart box (p ∷ q ∷ []) → AllByRecursion (IsOffBox box) (edges_of (q ∷ qs))
    → AllByRecursion (IsOffBox box) (edges_of (p ∷ q ∷ qs))
first-off box p q qs a rest = by_same (is_same p q) refl
  where
    by_same : (t : Bool) → is_same p q ≡ t → AllByRecursion (IsOffBox box) (edges_of (p ∷ q ∷ qs))
    by_same true h =
        subst (AllByRecursion (IsOffBox box)) (sym (edges-step p q qs ∙ ap (λ b. if b then edges_of (q ∷ qs) else edge_between p q ∷ edges_of (q ∷ qs)) h)) rest
    by_same false h =
        subst (AllByRecursion (IsOffBox box)) (sym (edges-step p q qs ∙ ap (λ b. if b then edges_of (q ∷ qs) else edge_between p q ∷ edges_of (q ∷ qs)) h))
        ((subst (AllByRecursion (IsOffBox box)) (edges-step p q [] ∙ ap (λ b. if b then edges_of (q ∷ []) else edge_between p q ∷ edges_of (q ∷ [])) h) a.off).0, rest)

pub edge-next : (box : Box) (whole : Type 0) (p q : Coordinates) (left all : List Coordinates) → all ≡ q ∷ left → IsApart box (p ∷ q ∷ [])
    → (AllByRecursion (IsOffBox box) (edges_of (p ∷ all)) → whole) → AllByRecursion (IsOffBox box) (edges_of (q ∷ left)) → whole
edge-next box whole p q left all is a rest h = rest (subst (λ qs. AllByRecursion (IsOffBox box) (edges_of (p ∷ qs))) (sym is) (first-off box p q left a h))
