-- An edge whose ends are one point has that point alone. The square of the distance of two grid points, and squares of distances with the
-- sets exchanged or said otherwise.
use Rattle.std.proofs.Common.{◌≡◌, refl, ap, subst, sym, ◌∙◌, ℤ, ℕ, ◌+◌, ◌*◌, pos, ◌+ℤ◌, ◌-ℤ◌, ◌*ℤ◌, ◌≤ℤ◌, arith, [], ◌∷◌, true, false, ◌&&◌}
use Rattle.std.specs.Prelude.{int_le}
use Rattle.std.specs.Int.{int_max, int_min}
use Rattle.std.specs.Ordering.{int_eq}
use Rattle.std.proofs.lemmas.Bool.{and_from, and_parts, both_ways}
use Rattle.std.proofs.lemmas.Int.{clamps, ints}
use Rattle.sf_grid.specs.Fraction.{Fraction, whole}
use Rattle.sf_grid.specs.Plane.{Coordinates, IsSamePoint, Point, grid_point, x_of, y_of}
use Rattle.sf_grid.specs.Edge.{IsOnEdge, cross, edge_between, in_box, within}
use Rattle.sf_grid.proofs.Ring.{ring, var, num, sum, dif, mul}
use Rattle.sf_grid.proofs.NumberTests.{eq_from_test, le_from_test, test_from_eq, test_from_le}
use Rattle.sf_grid.proofs.MeanLaws.{same_coordinates}
use Rattle.sf_distance.specs.Squares.{IsLeastSquare}
use Rattle.sf_distance.specs.Mixed.{Mixed, number_of}
use Rattle.sf_distance.specs.Nearest.{square_of}
use Rattle.sf_distance.proofs.WeightLaws.{from_difference, scaled_least}
use Rattle.sf_distance.proofs.PointLaws.{same_self}
use Rattle.sf_distance.proofs.LeastLaws.{flipped, le_flipped}

-- ---- a point as an edge
between_same : (a z d : ℤ) → int_le (int_min a a *ℤ d) z ≡ true → int_le z (int_max a a *ℤ d) ≡ true → z *ℤ pos 1 ≡ a *ℤ d
between_same a z d h k =
    let low : int_min a a ≡ a = omega (arith, ints, clamps) in
    let high : int_max a a ≡ a = omega (arith, ints, clamps) in
    let from : (a *ℤ d) ≤ℤ z = subst (λ n. (n *ℤ d) ≤ℤ z) low (le_from_test (int_min a a *ℤ d) z h) in
    let to : z ≤ℤ (a *ℤ d) = subst (λ n. z ≤ℤ (n *ℤ d)) high (le_from_test z (int_max a a *ℤ d) k) in
    omega (arith, ints)

pub dot_is_point : (a : Coordinates) (q : Point) → IsOnEdge (edge_between a a) q → IsSamePoint q (grid_point a)
dot_is_point a q h =
    let box = and_parts (within (int_min a.x a.x) (int_max a.x a.x) (x_of q)) (within (int_min a.y a.y) (int_max a.y a.y) (y_of q)) (and_parts (int_eq (cross a a q) (pos 0)) (in_box (edge_between a a) q) h).1 in
    let xs = and_parts (int_le (int_min a.x a.x *ℤ pos q.d) q.x) (int_le q.x (int_max a.x a.x *ℤ pos q.d)) box.0 in
    let ys = and_parts (int_le (int_min a.y a.y *ℤ pos q.d) q.y) (int_le q.y (int_max a.y a.y *ℤ pos q.d)) box.1 in
    and_from _ _ (test_from_eq (q.x *ℤ pos 1) (a.x *ℤ pos q.d) (between_same a.x q.x (pos q.d) xs.0 xs.1)) (test_from_eq (q.y *ℤ pos 1) (a.y *ℤ pos q.d) (between_same a.y q.y (pos q.d) ys.0 ys.1))

low_side : (a z d : ℤ) → z *ℤ pos 1 ≡ a *ℤ d → int_le (int_min a a *ℤ d) z ≡ true
low_side a z d h =
    let low : int_min a a ≡ a = omega (arith, ints, clamps) in
    let from : (a *ℤ d) ≤ℤ z = omega (arith, ints) in
    test_from_le (int_min a a *ℤ d) z (subst (λ n. (n *ℤ d) ≤ℤ z) (sym low) from)

high_side : (a z d : ℤ) → z *ℤ pos 1 ≡ a *ℤ d → int_le z (int_max a a *ℤ d) ≡ true
high_side a z d h =
    let high : int_max a a ≡ a = omega (arith, ints, clamps) in
    let to : z ≤ℤ (a *ℤ d) = omega (arith, ints) in
    test_from_le z (int_max a a *ℤ d) (subst (λ n. z ≤ℤ (n *ℤ d)) (sym high) to)

pub point_is_dot : (a : Coordinates) (q : Point) → IsSamePoint q (grid_point a) → IsOnEdge (edge_between a a) q
point_is_dot a q h =
    let at = and_parts (int_eq (q.x *ℤ pos 1) (a.x *ℤ pos q.d)) (int_eq (q.y *ℤ pos 1) (a.y *ℤ pos q.d)) h in
    let x = eq_from_test (q.x *ℤ pos 1) (a.x *ℤ pos q.d) at.0 in
    let y = eq_from_test (q.y *ℤ pos 1) (a.y *ℤ pos q.d) at.1 in
    and_from (int_eq (cross a a q) (pos 0)) (in_box (edge_between a a) q)
    (test_from_eq (cross a a q) (pos 0) (ring (a.x ∷ a.y ∷ q.x ∷ q.y ∷ (pos q.d) ∷ []) (dif (mul (dif (var 0) (var 0)) (dif (var 3) (mul (var 1) (var 4)))) (mul (dif (var 1) (var 1)) (dif (var 2) (mul (var 0) (var 4))))) (num (pos 0)) refl))
    (and_from (within (int_min a.x a.x) (int_max a.x a.x) (x_of q)) (within (int_min a.y a.y) (int_max a.y a.y) (y_of q))
    (and_from (int_le (int_min a.x a.x *ℤ pos q.d) q.x) (int_le q.x (int_max a.x a.x *ℤ pos q.d)) (low_side a.x q.x (pos q.d) x) (high_side a.x q.x (pos q.d) x))
    (and_from (int_le (int_min a.y a.y *ℤ pos q.d) q.y) (int_le q.y (int_max a.y a.y *ℤ pos q.d)) (low_side a.y q.y (pos q.d) y) (high_side a.y q.y (pos q.d) y)))

-- ---- the same sets
pub least_as : (First Second Other Another : Point → Type 0) (s : Fraction) → ((p : Point) → First p → Other p) → ((p : Point) → Other p → First p)
    → ((p : Point) → Second p → Another p) → ((p : Point) → Another p → Second p) → IsLeastSquare First Second s → IsLeastSquare Other Another s
least_as First Second Other Another s there back over home l =
    record {
      is_number = l.is_number;
      reached =
          record {
            first = l.reached.first;
            second = l.reached.second;
            first_is_point = l.reached.first_is_point;
            second_is_point = l.reached.second_is_point;
            in_first = there l.reached.first l.reached.in_first;
            in_second = over l.reached.second l.reached.in_second;
            reached = l.reached.reached;
          };
      least = λ p q i j h k. l.least p q i j (back p h) (home q k);
    }

-- the other way round
pub least_back : (First Second : Point → Type 0) (s : Fraction) → IsLeastSquare First Second s → IsLeastSquare Second First s
least_back First Second s l =
    record {
      is_number = l.is_number;
      reached =
          record {
            first = l.reached.second;
            second = l.reached.first;
            first_is_point = l.reached.second_is_point;
            second_is_point = l.reached.first_is_point;
            in_first = l.reached.in_second;
            in_second = l.reached.in_first;
            reached = flipped l.reached.first l.reached.second s l.reached.reached;
          };
      least = λ p q i j h k. le_flipped q p s (l.least q p j i k h);
    }

-- ---- two points
no_denominator : (a b : ℤ) → a *ℤ pos 1 ≡ b → a ≡ b
no_denominator a b h = omega (arith, ints)

way_of_points : (px pd qx qd a b : ℤ) → px ≡ a *ℤ pd → qx ≡ b *ℤ qd → pos 1 *ℤ (px *ℤ qd -ℤ qx *ℤ pd) ≡ (pd *ℤ qd) *ℤ (a -ℤ b)
way_of_points px pd qx qd a b e f =
    ap (λ z. pos 1 *ℤ (z *ℤ qd -ℤ qx *ℤ pd)) e
    ∙ ap (λ z. pos 1 *ℤ (a *ℤ pd *ℤ qd -ℤ z *ℤ pd)) f
    ∙ (ring (a ∷ b ∷ pd ∷ qd ∷ []) (mul (num (pos 1)) (dif (mul (mul (var 0) (var 2)) (var 3)) (mul (mul (var 1) (var 3)) (var 2)))) (mul (mul (var 2) (var 3)) (dif (var 0) (var 1))) refl)

square_is : (a b : Coordinates) → (square_of a b *ℤ (pos 1 *ℤ pos 1)) ≤ℤ (((a.x -ℤ b.x) *ℤ (a.x -ℤ b.x) +ℤ (a.y -ℤ b.y) *ℤ (a.y -ℤ b.y)) *ℤ pos 1)
square_is a b =
    from_difference _ _ (pos 0)
    (ring (a.x ∷ a.y ∷ b.x ∷ b.y ∷ []) (mul (sum (mul (dif (var 0) (var 2)) (dif (var 0) (var 2))) (mul (dif (var 1) (var 3)) (dif (var 1) (var 3)))) (num (pos 1))) (sum (mul (sum (mul (dif (var 2) (var 0)) (dif (var 2) (var 0))) (mul (dif (var 3) (var 1)) (dif (var 3) (var 1)))) (mul (num (pos 1)) (num (pos 1)))) (num (pos 0))) refl)
    (omega (arith, ints))

pub least_of_points : (a b : Coordinates) → IsLeastSquare (λ q. IsSamePoint q (grid_point a)) (λ q. IsSamePoint q (grid_point b)) (whole (square_of a b))
least_of_points a b =
    record {
      is_number = record { positive = omega arith };
      reached =
          record {
            first = grid_point a;
            second = grid_point b;
            first_is_point = record { positive = omega arith };
            second_is_point = record { positive = omega arith };
            in_first = same_self (grid_point a);
            in_second = same_self (grid_point b);
            reached = test_from_eq _ _ (ring (a.x ∷ a.y ∷ b.x ∷ b.y ∷ []) (mul (sum (mul (dif (mul (var 0) (num (pos 1))) (mul (var 2) (num (pos 1)))) (dif (mul (var 0) (num (pos 1))) (mul (var 2) (num (pos 1))))) (mul (dif (mul (var 1) (num (pos 1))) (mul (var 3) (num (pos 1)))) (dif (mul (var 1) (num (pos 1))) (mul (var 3) (num (pos 1)))))) (num (pos 1))) (mul (sum (mul (dif (var 2) (var 0)) (dif (var 2) (var 0))) (mul (dif (var 3) (var 1)) (dif (var 3) (var 1)))) (num (pos 1))) refl);
          };
      least =
          λ p q i j h k.
          let at = and_parts _ _ h in
          let to = and_parts _ _ k in
          test_from_le _ _
          (scaled_least (square_of a b) (pos 1) (p.x *ℤ pos q.d -ℤ q.x *ℤ pos p.d) (p.y *ℤ pos q.d -ℤ q.y *ℤ pos p.d)
          (a.x -ℤ b.x) (a.y -ℤ b.y) (pos 1) (pos p.d *ℤ pos q.d) (omega (arith, ints))
          (way_of_points p.x (pos p.d) q.x (pos q.d) a.x b.x (no_denominator _ _ (eq_from_test (p.x *ℤ pos 1) (a.x *ℤ pos p.d) at.0)) (no_denominator _ _ (eq_from_test (q.x *ℤ pos 1) (b.x *ℤ pos q.d) to.0)))
          (way_of_points p.y (pos p.d) q.y (pos q.d) a.y b.y (no_denominator _ _ (eq_from_test (p.y *ℤ pos 1) (a.y *ℤ pos p.d) at.1)) (no_denominator _ _ (eq_from_test (q.y *ℤ pos 1) (b.y *ℤ pos q.d) to.1)))
          (square_is a b));
    }

-- ---- whether two ends are one
pub ends_same : (a b : Coordinates) → (int_eq a.x b.x && int_eq a.y b.y) ≡ true → a ≡ b
ends_same a b h = let both = and_parts (int_eq a.x b.x) (int_eq a.y b.y) h in same_coordinates a b (eq_from_test a.x b.x both.0) (eq_from_test a.y b.y both.1)

pub ends_differ : (a b : Coordinates) → (int_eq a.x b.x && int_eq a.y b.y) ≡ false → a ≡ b → ⊥
ends_differ a b h e =
    both_ways (int_eq a.x b.x && int_eq a.y b.y) h
    (and_from (int_eq a.x b.x) (int_eq a.y b.y) (test_from_eq a.x b.x (ap (λ (c : Coordinates). c.x) e)) (test_from_eq a.y b.y (ap (λ (c : Coordinates). c.y) e)))

-- ---- edges of which one is a point
pub least_from_point : (a b : Coordinates) (e : Coordinates × Coordinates) (s : Fraction) → a ≡ b
    → IsLeastSquare (λ q. IsSamePoint q (grid_point a)) (IsOnEdge (edge_between e.0 e.1)) s → IsLeastSquare (IsOnEdge (edge_between a b)) (IsOnEdge (edge_between e.0 e.1)) s
least_from_point a b e s same l =
    subst (λ (c : Coordinates). IsLeastSquare (IsOnEdge (edge_between a c)) (IsOnEdge (edge_between e.0 e.1)) s) same
    (least_as (λ q. IsSamePoint q (grid_point a)) (IsOnEdge (edge_between e.0 e.1)) (IsOnEdge (edge_between a a)) (IsOnEdge (edge_between e.0 e.1)) s
    (λ p h. point_is_dot a p h) (λ p h. dot_is_point a p h) (λ p h. h) (λ p h. h) l)

pub least_to_point : (a b : Coordinates) (e : Coordinates × Coordinates) (s : Fraction) → a ≡ b
    → IsLeastSquare (λ q. IsSamePoint q (grid_point a)) (IsOnEdge (edge_between e.0 e.1)) s → IsLeastSquare (IsOnEdge (edge_between e.0 e.1)) (IsOnEdge (edge_between a b)) s
least_to_point a b e s same l = least_back (IsOnEdge (edge_between a b)) (IsOnEdge (edge_between e.0 e.1)) s (least_from_point a b e s same l)

pub least_to_dot : (p a b : Coordinates) → a ≡ b → IsLeastSquare (λ q. IsSamePoint q (grid_point p)) (IsOnEdge (edge_between a b)) (whole (square_of p a))
least_to_dot p a b same =
    subst (λ (c : Coordinates). IsLeastSquare (λ q. IsSamePoint q (grid_point p)) (IsOnEdge (edge_between a c)) (whole (square_of p a))) same
    (least_as (λ q. IsSamePoint q (grid_point p)) (λ q. IsSamePoint q (grid_point a)) (λ q. IsSamePoint q (grid_point p)) (IsOnEdge (edge_between a a)) (whole (square_of p a))
    (λ q h. h) (λ q h. h) (λ q h. point_is_dot a q h) (λ q h. dot_is_point a q h) (least_of_points p a))

-- ---- a whole square, as it is kept
pub whole_number : (m : Mixed) (n : ℕ) (z : ℤ) → m ≡ record { whole = n; rest = 0; den = 1 } → pos n ≡ z → number_of m ≡ whole z
whole_number m n z is value =
    let number : ℤ → Fraction = λ t. record { num = t; den = 1 } in
    ap number_of is ∙ ap number (plain n ∙ value)
  where
    plain : (n : ℕ) → pos (n * 1 + 0) ≡ pos n
    plain n = omega (arith, ints)
