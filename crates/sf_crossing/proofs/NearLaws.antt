-- The boxes of two edges that have a point in common share a point.
use Rattle.std.proofs.Common.{◌≡◌, ℕ, ◌<◌, arith, lit<, inl, inr, true, ℤ, pos, ◌*ℤ◌, ◌≤ℤ◌}
use Rattle.std.specs.Prelude.{◌&&◌, int_le}
use Rattle.std.specs.Int.{int_max, int_min}
use Rattle.std.proofs.lemmas.Bool.{and_from, and_parts}
use Rattle.std.proofs.lemmas.Int.{clamps, ints}
use Rattle.sf_grid.specs.Edge.{IsOnEdge}
use Rattle.sf_grid.specs.Plane.{Coordinates, IsPoint, Point, grid_point}
use Rattle.sf_grid.proofs.CallerLemmas.{le_from_mul, le_from_test, lies, test_from_le}
use Rattle.sf_geometry.specs.Envelope.{extents_meet}
use Rattle.sf_geometry.specs.Parts.{edge_of}
use Rattle.sf_edge_tree.specs.Boxes.{extent_of_edge}
use Rattle.sf_crossing.specs.Crossing.{MayHave}
use Rattle.sf_crossing.proofs.AloneLaws.{low-on}

-- two ranges that have a place in common
ranges-meet : (a b c d z : ℤ) (n : ℕ) → 0 < n → (int_le (int_min a b *ℤ pos n) z && int_le z (int_max a b *ℤ pos n)) ≡ true → (int_le (int_min c d *ℤ pos n) z && int_le z (int_max c d *ℤ pos n)) ≡ true
    → int_le (int_max (int_min a b) (int_min c d)) (int_min (int_max a b) (int_max c d)) ≡ true
ranges-meet a b c d z n positive first second =
    let f = and_parts (int_le (int_min a b *ℤ pos n) z) (int_le z (int_max a b *ℤ pos n)) first in
    let g = and_parts (int_le (int_min c d *ℤ pos n) z) (int_le z (int_max c d *ℤ pos n)) second in
    test_from_le (int_max (int_min a b) (int_min c d)) (int_min (int_max a b) (int_max c d))
    (between
    (le_from_mul (int_min a b) (int_max c d) n positive (over (int_min a b *ℤ pos n) (int_max c d *ℤ pos n) (le_from_test _ _ f.0) (le_from_test _ _ g.1)))
    (le_from_mul (int_min c d) (int_max a b) n positive (over (int_min c d *ℤ pos n) (int_max a b *ℤ pos n) (le_from_test _ _ g.0) (le_from_test _ _ f.1))))
  where
    over : (low high : ℤ) → low ≤ℤ z → z ≤ℤ high → low ≤ℤ high
    over low high h k = omega (arith, ints)

    between : int_min a b ≤ℤ int_max c d → int_min c d ≤ℤ int_max a b → int_max (int_min a b) (int_min c d) ≤ℤ int_min (int_max a b) (int_max c d)
    between h k = omega (arith, ints, clamps)

pub boxes-meet : (e f : Coordinates × Coordinates) (q : Point) → IsPoint q → IsOnEdge (edge_of e) q → IsOnEdge (edge_of f) q → extents_meet (extent_of_edge e) (extent_of_edge f) ≡ true
boxes-meet e f q i on that =
    let k = lies (edge_of e) q on in
    let l = lies (edge_of f) q that in
    and_from _ _ (ranges-meet e.0.x e.1.x f.0.x f.1.x q.x q.d i.positive k.x l.x) (ranges-meet e.0.y e.1.y f.0.y f.1.y q.y q.d i.positive k.y l.y)

pub has-near : (e line : Coordinates × Coordinates) (q : Point) → IsPoint q → IsOnEdge (edge_of line) q → MayHave (edge_of e) (edge_of line) q → extents_meet (extent_of_edge e) (extent_of_edge line) ≡ true
has-near e line q i on (inl has) = boxes-meet e line q i has on
has-near e line q i on (inr along) =
    let both = low-on (edge_of e) (edge_of line) along.0 along.1 along.2 in
    boxes-meet e line (grid_point along.0) (record { positive = lit< tt }) both.0 both.1
