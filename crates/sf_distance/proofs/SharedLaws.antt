-- Sets that share a point are 0 apart, as edges do.
use Rattle.std.proofs.Common.{refl, ℤ, pos, ◌-ℤ◌, ◌*ℤ◌, ◌≤ℤ◌, arith, [], ◌∷◌}
use Rattle.std.proofs.lemmas.Int.{ints}
use Rattle.sf_grid.specs.Fraction.{whole}
use Rattle.sf_grid.specs.Plane.{Coordinates, IsPoint, Point, grid_point}
use Rattle.sf_grid.specs.Edge.{Edge, IsOnEdge, edge_between}
use Rattle.sf_grid.specs.Sharing.{IsSharing}
use Rattle.sf_grid.specs.declared.meet.Meet.TheVariants.{Along, At}
use Rattle.sf_grid.proofs.Products.{square_nonneg, sum_nonneg}
use Rattle.sf_grid.proofs.Ring.{ring, var, num, sum, dif, mul}
use Rattle.sf_grid.proofs.NumberTests.{test_from_eq, test_from_le}
use Rattle.sf_grid.proofs.MeanLaws.{on_edge-mean}
use Rattle.sf_distance.specs.Squares.{IsLeastSquare, square_between}
use Rattle.sf_distance.proofs.PointLaws.{mean_of_start, same_self}

zero_least : (z : ℤ) (d : ℤ) → pos 0 ≤ℤ z → (pos 0 *ℤ d) ≤ℤ (z *ℤ pos 1)
zero_least z d h = omega (arith, ints)

pub least_of_shared : (First Second : Point → Type 0) (q : Point) → IsPoint q → First q → Second q → IsLeastSquare First Second (whole (pos 0))
least_of_shared First Second q o h k =
    record {
      is_number = record { positive = omega arith };
      reached =
          record {
            first = q;
            second = q;
            first_is_point = o;
            second_is_point = o;
            in_first = h;
            in_second = k;
            reached = test_from_eq _ _ (ring (q.x ∷ q.y ∷ (pos q.d) ∷ []) (mul (sum (mul (dif (mul (var 0) (var 2)) (mul (var 0) (var 2))) (dif (mul (var 0) (var 2)) (mul (var 0) (var 2)))) (mul (dif (mul (var 1) (var 2)) (mul (var 1) (var 2))) (dif (mul (var 1) (var 2)) (mul (var 1) (var 2))))) (num (pos 1))) (mul (num (pos 0)) (mul (mul (var 2) (var 2)) (mul (var 2) (var 2)))) refl);
          };
      least =
          λ p r i j s t.
          test_from_le _ _
          (zero_least (square_between p r).num (pos (square_between p r).den)
          (sum_nonneg _ _ (square_nonneg (p.x *ℤ pos r.d -ℤ r.x *ℤ pos p.d)) (square_nonneg (p.y *ℤ pos r.d -ℤ r.y *ℤ pos p.d))));
    }

pub least_at : (e f : Edge) (q : Point) → IsSharing e f (At q) → IsLeastSquare (IsOnEdge e) (IsOnEdge f) (whole (pos 0))
least_at e f q h = let both = (h.1 q h.0).1 (same_self q) in least_of_shared (IsOnEdge e) (IsOnEdge f) q h.0 both.0 both.1

pub least_along : (e f : Edge) (a b : Coordinates) → IsSharing e f (Along a b) → IsLeastSquare (IsOnEdge e) (IsOnEdge f) (whole (pos 0))
least_along e f a b h =
    let point : IsPoint (grid_point a) = record { positive = omega arith } in
    let both = (h.1 (grid_point a) point).1 (on_edge-mean (edge_between a b) (grid_point a) (pos 1) (pos 0) (mean_of_start (edge_between a b))) in
    least_of_shared (IsOnEdge e) (IsOnEdge f) (grid_point a) point both.0 both.1
