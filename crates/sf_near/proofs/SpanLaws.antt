-- Geometries whose boxes have no two points farther apart than a bound are within it, since each has a point.
use Rattle.std.proofs.Common.{◌≡◌, refl, ap, ℕ, ◌+◌, ◌*◌, ℤ, pos, ◌+ℤ◌, ◌-ℤ◌, ◌*ℤ◌, ◌≤ℤ◌, arith, [], ◌∷◌, true}
use Rattle.std.specs.Prelude.{IsTrue}
use Rattle.std.specs.Int.{int_max}
use Rattle.std.proofs.lemmas.Bool.{and_parts}
use Rattle.std.proofs.lemmas.Int.{clamps, ints, by_lt_z}
use Rattle.sf_grid.specs.Edge.{within}
use Rattle.sf_grid.specs.Fraction.{Fraction, fraction_le, whole}
use Rattle.sf_grid.specs.Plane.{Point, x_of, y_of}
use Rattle.sf_grid.proofs.CallerLemmas.{dif, mul, mul_le, num, ring, sum, test_from_le, var}
use Rattle.sf_geometry.specs.declared.extent.Extent.{Extent}
use Rattle.sf_geometry.specs.declared.geometry.Geometry.{Geometry}
use Rattle.sf_geometry.specs.Envelope.{envelope_of}
use Rattle.sf_plane.specs.Boxes.{in_box}
use Rattle.sf_valid_rules.specs.Validity.{IsValid}
use Rattle.sf_validity.specs.Beside.{box_of_extent}
use Rattle.sf_relate.proofs.EnvelopeLaws.{lies_in_box, valid-closed}
use Rattle.sf_distance.specs.Squares.{IsWithin, square_between}
use Rattle.sf_distance.proofs.BoundLaws.{size_square}
use Rattle.sf_distance.proofs.CloseLaws.{squares_le}
use Rattle.sf_edge_distance.proofs.SearchLaws.{through}
use Rattle.sf_nearness.specs.Sets.{IsOf}
use Rattle.sf_nearness.proofs.ListedLaws.{has-point}
use Rattle.sf_nearness.proofs.SegmentLaws.{of-in}
use Rattle.sf_near.specs.Span.{span_of, square_of_number, square_of_span}
use Rattle.sf_near.proofs.GrownLaws.{IsBetween, between}

-- a number that is at most another one, as is its opposite, has no greater square
square-between : (x z : ℤ) → x ≤ℤ z → (pos 0 -ℤ x) ≤ℤ z → (x *ℤ x) ≤ℤ (z *ℤ z)
square-between x z h k =
    by_lt_z x (pos 0)
    (λ l. moved (x *ℤ x) ((pos 0 -ℤ x) *ℤ (pos 0 -ℤ x)) (z *ℤ z) (ring (x ∷ []) (mul (var 0) (var 0)) (mul (dif (num (pos 0)) (var 0)) (dif (num (pos 0)) (var 0))) refl)
    (squares_le (pos 0 -ℤ x) z (omega (arith, ints)) k))
    (λ l. squares_le x z l h)
  where
    moved : (a b c : ℤ) → a ≡ b → b ≤ℤ c → a ≤ℤ c
    moved a b c e h = omega (arith, ints)

-- of numbers of two ranges: the difference is no greater than the span, over the common denominator
apart : (b c px qx w : ℤ) (pd qd : ℕ) → px ≤ℤ (b *ℤ pos pd) → (c *ℤ pos qd) ≤ℤ qx → (b -ℤ c) ≤ℤ w → (px *ℤ pos qd -ℤ qx *ℤ pos pd) ≤ℤ (w *ℤ pos (pd * qd))
apart b c px qx w pd qd high low wide =
    joined (px *ℤ pos qd) (b *ℤ pos pd *ℤ pos qd) (c *ℤ pos qd *ℤ pos pd) (qx *ℤ pos pd) ((b -ℤ c) *ℤ pos (pd * qd)) (w *ℤ pos (pd * qd))
    (mul_le px (b *ℤ pos pd) qd high) (mul_le (c *ℤ pos qd) qx pd low)
    (ring (b ∷ c ∷ pos pd ∷ pos qd ∷ []) (mul (dif (var 0) (var 1)) (mul (var 2) (var 3))) (dif (mul (mul (var 0) (var 2)) (var 3)) (mul (mul (var 1) (var 3)) (var 2))) refl)
    (mul_le (b -ℤ c) w (pd * qd) wide)
  where
    joined : (p m n q g z : ℤ) → p ≤ℤ m → n ≤ℤ q → g ≡ m -ℤ n → g ≤ℤ z → (p -ℤ q) ≤ℤ z
    joined p m n q g z h k e l = omega (arith, ints)

axis-within : (a b c d px qx : ℤ) (pd qd : ℕ) → IsBetween a b px pd → IsBetween c d qx qd
    → ((px *ℤ pos qd -ℤ qx *ℤ pos pd) *ℤ (px *ℤ pos qd -ℤ qx *ℤ pos pd)) ≤ℤ (pos (square_of_number (span_of a b c d)) *ℤ pos ((pd * qd) * (pd * qd)))
axis-within a b c d px qx pd qd p q =
    let w : ℤ = span_of a b c d in
    let right : (px *ℤ pos qd -ℤ qx *ℤ pos pd) ≤ℤ (w *ℤ pos (pd * qd)) = apart b c px qx w pd qd p.high q.low (first (b -ℤ c) (d -ℤ a)) in
    let left : (qx *ℤ pos pd -ℤ px *ℤ pos qd) ≤ℤ (w *ℤ pos (qd * pd)) = apart d a qx px w qd pd q.high p.low (second (b -ℤ c) (d -ℤ a)) in
    moved ((px *ℤ pos qd -ℤ qx *ℤ pos pd) *ℤ (px *ℤ pos qd -ℤ qx *ℤ pos pd)) ((w *ℤ pos (pd * qd)) *ℤ (w *ℤ pos (pd * qd))) ((w *ℤ w) *ℤ pos ((pd * qd) * (pd * qd)))
    (pos (square_of_number w) *ℤ pos ((pd * qd) * (pd * qd)))
    (square-between (px *ℤ pos qd -ℤ qx *ℤ pos pd) (w *ℤ pos (pd * qd)) right
    (turned (px *ℤ pos qd) (qx *ℤ pos pd) (w *ℤ pos (pd * qd)) (w *ℤ pos (qd * pd)) (ring (w ∷ pos pd ∷ pos qd ∷ []) (mul (var 0) (mul (var 1) (var 2))) (mul (var 0) (mul (var 2) (var 1))) refl) left))
    (ring (w ∷ pos pd ∷ pos qd ∷ []) (mul (mul (var 0) (mul (var 1) (var 2))) (mul (var 0) (mul (var 1) (var 2)))) (mul (mul (var 0) (var 0)) (mul (mul (var 1) (var 2)) (mul (var 1) (var 2)))) refl)
    (ap (λ z. z *ℤ pos ((pd * qd) * (pd * qd))) (size_square w))
  where
    first : (m n : ℤ) → m ≤ℤ int_max m n
    first m n = omega (arith, ints, clamps)

    second : (m n : ℤ) → n ≤ℤ int_max m n
    second m n = omega (arith, ints, clamps)

    turned : (m n z u : ℤ) → z ≡ u → (n -ℤ m) ≤ℤ u → (pos 0 -ℤ (m -ℤ n)) ≤ℤ z
    turned m n z u e h = omega (arith, ints)

    moved : (a b c e : ℤ) → a ≤ℤ b → b ≡ c → e ≡ c → a ≤ℤ e
    moved a b c e h f g = omega (arith, ints)

-- two points of two boxes
points-within : (e f : Extent) (p q : Point) → in_box (box_of_extent e) p ≡ true → in_box (box_of_extent f) q ≡ true → IsTrue (fraction_le (square_between p q) (whole (pos (square_of_span e f))))
points-within e f p q in_e in_f =
    let own = and_parts (within e.min_x e.max_x (x_of p)) (within e.min_y e.max_y (y_of p)) in_e in
    let other = and_parts (within f.min_x f.max_x (x_of q)) (within f.min_y f.max_y (y_of q)) in_f in
    let d : ℕ = (p.d * q.d) * (p.d * q.d) in
    let x : ℤ = (p.x *ℤ pos q.d -ℤ q.x *ℤ pos p.d) *ℤ (p.x *ℤ pos q.d -ℤ q.x *ℤ pos p.d) in
    let y : ℤ = (p.y *ℤ pos q.d -ℤ q.y *ℤ pos p.d) *ℤ (p.y *ℤ pos q.d -ℤ q.y *ℤ pos p.d) in
    let m : ℕ = square_of_number (span_of e.min_x e.max_x f.min_x f.max_x) in
    let n : ℕ = square_of_number (span_of e.min_y e.max_y f.min_y f.max_y) in
    test_from_le ((x +ℤ y) *ℤ pos 1) (pos (m + n) *ℤ pos d)
    (joined x y (pos m *ℤ pos d) (pos n *ℤ pos d) (pos (m + n) *ℤ pos d)
    (axis-within e.min_x e.max_x f.min_x f.max_x p.x q.x p.d q.d (between e.min_x e.max_x p.x p.d own.0) (between f.min_x f.max_x q.x q.d other.0))
    (axis-within e.min_y e.max_y f.min_y f.max_y p.y q.y p.d q.d (between e.min_y e.max_y p.y p.d own.1) (between f.min_y f.max_y q.y q.d other.1))
    (ring (pos m ∷ pos n ∷ pos d ∷ []) (mul (sum (var 0) (var 1)) (var 2)) (sum (mul (var 0) (var 2)) (mul (var 1) (var 2))) refl))
  where
    joined : (x y u v w : ℤ) → x ≤ℤ u → y ≤ℤ v → w ≡ u +ℤ v → ((x +ℤ y) *ℤ pos 1) ≤ℤ w
    joined x y u v w h k e = omega (arith, ints)

pub whole-within : (a b : Geometry) (bound : Fraction) → IsValid a → IsValid b → IsTrue (fraction_le (whole (pos (square_of_span (envelope_of a) (envelope_of b)))) bound)
    → IsWithin (IsOf a) (IsOf b) bound
whole-within a b bound va vb near =
    let s = has-point a va in
    let t = has-point b vb in
    record {
      first = s.q;
      second = t.q;
      first_is_point = s.is_point;
      second_is_point = t.is_point;
      in_first = of-in a s.q s.in_first;
      in_second = of-in b t.q t.in_first;
      near =
          through (square_between s.q t.q) (whole (pos (square_of_span (envelope_of a) (envelope_of b)))) bound (record { positive = omega arith })
          (points-within (envelope_of a) (envelope_of b) s.q t.q (lies_in_box a s.q (valid-closed a va) s.is_point s.in_first) (lies_in_box b t.q (valid-closed b vb) t.is_point t.in_first)) near;
    }
