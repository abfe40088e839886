-- A geometry that has a point within a reach of another one has a box that meets the other one's, grown by the reach.
use Rattle.std.proofs.Common.{◌≡◌, refl, ℕ, ◌*◌, ◌<◌, ℤ, pos, ◌+ℤ◌, ◌-ℤ◌, ◌*ℤ◌, ◌≤ℤ◌, arith, true, ◌&&◌, List, [], ◌∷◌}
use Rattle.std.specs.Prelude.{IsTrue, int_le}
use Rattle.std.specs.Int.{int_max, int_min}
use Rattle.std.specs.List.{AllByRecursion}
use Rattle.std.proofs.lemmas.Bool.{and_from, and_parts}
use Rattle.std.proofs.lemmas.Int.{clamps, ints}
use Rattle.sf_grid.specs.Bounds.{grid_max, grid_min}
use Rattle.sf_grid.specs.Edge.{within}
use Rattle.sf_grid.specs.Fraction.{fraction_le}
use Rattle.sf_grid.specs.Plane.{Coordinates, IsOnGrid, IsPoint, Point, x_of, y_of}
use Rattle.sf_grid.proofs.CallerLemmas.{dif, le_from_mul, le_from_test, mul, num, ring, test_from_le, var}
use Rattle.sf_geometry.specs.declared.extent.Extent.{Extent}
use Rattle.sf_geometry.specs.declared.geometry.Geometry.{Geometry}
use Rattle.sf_geometry.specs.Envelope.{envelope_of, extent_of, extents_meet}
use Rattle.sf_geometry.specs.Parts.{LiesOnGrid, points_of}
use Rattle.sf_edge_tree.proofs.EnvelopeLaws.{HasPoint, points-in}
use Rattle.sf_plane.specs.Boxes.{in_box}
use Rattle.sf_validity.specs.Beside.{box_of_extent}
use Rattle.sf_validity.specs.Held.{IsHeld}
use Rattle.sf_relate.proofs.EnvelopeLaws.{lies_in_box, valid-closed}
use Rattle.sf_distance.specs.Reaches.{square_of_reach, steps_of_reach}
use Rattle.sf_distance.specs.Squares.{IsWithin, square_between}
use Rattle.sf_nearness.specs.Sets.{IsOf}
use Rattle.sf_nearness.proofs.SegmentLaws.{in-of}
use Rattle.sf_near.specs.Grown.{greatest_number, grown, least_number, lowered, raised}
use Rattle.sf_near.proofs.ReachLaws.{AreLegs, are-legs, steps-between}

-- ---- a box of points of the grid
-- no side is beyond the numbers of 32 bits
record Fits (e : Extent) : Type 0 where
  left : e.min_x ≤ℤ greatest_number
  right : least_number ≤ℤ e.max_x
  low : e.min_y ≤ℤ greatest_number
  high : least_number ≤ℤ e.max_y

fits-points : (ps : List Coordinates) → AllByRecursion IsOnGrid ps → AllByRecursion (HasPoint (extent_of ps)) ps → Fits (extent_of ps)
fits-points [] h k = record { left = omega (arith, ints); right = omega (arith, ints); low = omega (arith, ints); high = omega (arith, ints) }
fits-points (p ∷ ps) h k = record {
  left = below (extent_of (p ∷ ps)).min_x p.x k.0.left h.0.0.1;
  right = above p.x (extent_of (p ∷ ps)).max_x k.0.right h.0.0.0;
  low = below (extent_of (p ∷ ps)).min_y p.y k.0.low h.0.1.1;
  high = above p.y (extent_of (p ∷ ps)).max_y k.0.high h.0.1.0;
}
  where
    below : (m z : ℤ) → m ≤ℤ z → z ≤ℤ grid_max → m ≤ℤ greatest_number
    below m z h k = omega (arith, ints)

    above : (z m : ℤ) → z ≤ℤ m → grid_min ≤ℤ z → least_number ≤ℤ m
    above z m h k = omega (arith, ints)

fits : (a : Geometry) → LiesOnGrid a → Fits (envelope_of a)
fits a h = fits-points (points_of a) h (points-in a)

-- ---- a coordinate between two numbers
pub record IsBetween (m n z : ℤ) (d : ℕ) : Type 0 where
  pub low : (m *ℤ pos d) ≤ℤ z
  pub high : z ≤ℤ (n *ℤ pos d)

pub between : (m n z : ℤ) (d : ℕ) → (int_le (m *ℤ pos d) z && int_le z (n *ℤ pos d)) ≡ true → IsBetween m n z d
between m n z d h =
    let parts = and_parts (int_le (m *ℤ pos d) z) (int_le z (n *ℤ pos d)) h in
    record { low = le_from_test (m *ℤ pos d) z parts.0; high = le_from_test z (n *ℤ pos d) parts.1 }

ordered : (m n z : ℤ) (d : ℕ) → 0 < d → IsBetween m n z d → m ≤ℤ n
ordered m n z d p h = le_from_mul m n d p (chain (m *ℤ pos d) z (n *ℤ pos d) h.low h.high)
  where
    chain : (a b c : ℤ) → a ≤ℤ b → b ≤ℤ c → a ≤ℤ c
    chain a b c h k = omega (arith, ints)

-- ---- ranges that meet
range-meets : (a b c d : ℤ) (s : ℕ) → a ≤ℤ b → c ≤ℤ d → a ≤ℤ greatest_number → least_number ≤ℤ b → c ≤ℤ greatest_number → least_number ≤ℤ d
    → a ≤ℤ (d +ℤ pos s) → c ≤ℤ (b +ℤ pos s) → int_le (int_max a (lowered s c)) (int_min b (raised s d)) ≡ true
range-meets a b c d s ab cd ag lb cg ld near back =
    test_from_le (int_max a (lowered s c)) (int_min b (raised s d))
    (least_of (int_max a (lowered s c)) b (raised s d)
    (greatest_of b a (lowered s c) ab (greatest_of b least_number (c -ℤ pos s) lb (omega (arith, ints))))
    (least_of (int_max a (lowered s c)) greatest_number (d +ℤ pos s)
    (greatest_of greatest_number a (lowered s c) ag (greatest_of greatest_number least_number (c -ℤ pos s) (omega (arith, ints)) (omega (arith, ints))))
    (greatest_of (d +ℤ pos s) a (lowered s c) near (greatest_of (d +ℤ pos s) least_number (c -ℤ pos s) (omega (arith, ints)) (omega (arith, ints))))))
  where
    least_of : (l m n : ℤ) → l ≤ℤ m → l ≤ℤ n → l ≤ℤ int_min m n
    least_of l m n h k = omega (arith, ints, clamps)

    greatest_of : (l m n : ℤ) → m ≤ℤ l → n ≤ℤ l → int_max m n ≤ℤ l
    greatest_of l m n h k = omega (arith, ints, clamps)

axis : (a b c d px qx : ℤ) (pd qd t : ℕ) → 0 < pd → 0 < qd → IsBetween a b px pd → IsBetween c d qx qd → a ≤ℤ greatest_number → least_number ≤ℤ b → c ≤ℤ greatest_number → least_number ≤ℤ d
    → ((px *ℤ pos qd -ℤ qx *ℤ pos pd) *ℤ pos 1000) ≤ℤ (pos t *ℤ pos (pd * qd))
    → ((pos 0 -ℤ (px *ℤ pos qd -ℤ qx *ℤ pos pd)) *ℤ pos 1000) ≤ℤ (pos t *ℤ pos (pd * qd))
    → int_le (int_max a (lowered (steps_of_reach t) c)) (int_min b (raised (steps_of_reach t) d)) ≡ true
axis a b c d px qx pd qd t hp hq p q ag lb cg ld right left =
    range-meets a b c d (steps_of_reach t) (ordered a b px pd hp p) (ordered c d qx qd hq q) ag lb cg ld
    (steps-between a d px qx pd qd t hp hq p.low q.high right)
    (steps-between c b qx px qd pd t hq hp q.low p.high
    (moved _ _ _ _ (ring (px ∷ qx ∷ pos pd ∷ pos qd ∷ []) (mul (dif (mul (var 1) (var 2)) (mul (var 0) (var 3))) (num (pos 1000))) (mul (dif (num (pos 0)) (dif (mul (var 0) (var 3)) (mul (var 1) (var 2)))) (num (pos 1000))) refl)
    (ring (pos t ∷ pos pd ∷ pos qd ∷ []) (mul (var 0) (mul (var 2) (var 1))) (mul (var 0) (mul (var 1) (var 2))) refl) left))
  where
    moved : (a b c e : ℤ) → a ≡ b → c ≡ e → b ≤ℤ e → a ≤ℤ c
    moved a b c e f g h = omega (arith, ints)

-- ---- boxes that have such points
boxes-meet : (e f : Extent) (p q : Point) (t : ℕ) → Fits e → Fits f → IsPoint p → IsPoint q → in_box (box_of_extent e) p ≡ true → in_box (box_of_extent f) q ≡ true
    → IsTrue (fraction_le (square_between p q) (square_of_reach t)) → extents_meet e (grown (steps_of_reach t) f) ≡ true
boxes-meet e f p q t fit_e fit_f i j in_e in_f near =
    let own = and_parts (within e.min_x e.max_x (x_of p)) (within e.min_y e.max_y (y_of p)) in_e in
    let other = and_parts (within f.min_x f.max_x (x_of q)) (within f.min_y f.max_y (y_of q)) in_f in
    let legs : AreLegs (p.x *ℤ pos q.d -ℤ q.x *ℤ pos p.d) (p.y *ℤ pos q.d -ℤ q.y *ℤ pos p.d) (pos t *ℤ pos (p.d * q.d)) =
    are-legs (p.x *ℤ pos q.d -ℤ q.x *ℤ pos p.d) (p.y *ℤ pos q.d -ℤ q.y *ℤ pos p.d) t (p.d * q.d) (le_from_test _ _ near) in
    and_from _ _
    (axis e.min_x e.max_x f.min_x f.max_x p.x q.x p.d q.d t i.positive j.positive (between e.min_x e.max_x p.x p.d own.0) (between f.min_x f.max_x q.x q.d other.0)
    fit_e.left fit_e.right fit_f.left fit_f.right legs.right legs.left)
    (axis e.min_y e.max_y f.min_y f.max_y p.y q.y p.d q.d t i.positive j.positive (between e.min_y e.max_y p.y p.d own.1) (between f.min_y f.max_y q.y q.d other.1)
    fit_e.low fit_e.high fit_f.low fit_f.high legs.up legs.down)

-- ---- geometries
pub near-boxes-meet : (a b : Geometry) (t : ℕ) → IsHeld a → IsHeld b → IsWithin (IsOf a) (IsOf b) (square_of_reach t)
    → extents_meet (envelope_of a) (grown (steps_of_reach t) (envelope_of b)) ≡ true
near-boxes-meet a b t ha hb w =
    boxes-meet (envelope_of a) (envelope_of b) w.first w.second t (fits a ha.on_grid) (fits b hb.on_grid) w.first_is_point w.second_is_point
    (lies_in_box a w.first (valid-closed a ha.valid) w.first_is_point (in-of a w.first w.in_first))
    (lies_in_box b w.second (valid-closed b hb.valid) w.second_is_point (in-of b w.second w.in_second)) w.near
