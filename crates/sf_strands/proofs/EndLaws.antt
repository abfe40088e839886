-- A point and the ends of an edge: it is on the edge where it is an end, and isn't both.
use Rattle.std.proofs.Common.{◌≡◌, ◌+◌, ◌≤◌, refl, ap, sym, ◌∙◌, ℤ, pos, ◌*ℤ◌, arith, Bool, true, false, [], ◌∷◌}
use Rattle.std.proofs.lemmas.Bool.{and_from, and_parts, false≢true}
use Rattle.std.proofs.lemmas.Int.{ints}
use Rattle.sf_grid.specs.Plane.{Coordinates, IsPoint, Point, grid_point, same_point}
use Rattle.sf_grid.specs.Edge.{Edge, IsOnEdge, edge_between, on_edge}
use Rattle.sf_grid.proofs.CallerLemmas.{eq_from_test, num, on_edge-mean, on_edge-same, ring, same_point_is_equivalence, sum, mul, test_from_eq, var}
use Rattle.sf_grid.proofs.ColumnLaws.{times-one}
use Rattle.sf_geometry.specs.Lists.{is_same}
use Rattle.sf_strands.proofs.ChainLaws.{bit}

pub grid-IsPoint : (a : Coordinates) → IsPoint (grid_point a)
grid-IsPoint a = record { positive = omega arith }

-- the ends are on the edge
pub start-on : (a b : Coordinates) → IsOnEdge (edge_between a b) (grid_point a)
start-on a b =
    on_edge-mean (edge_between a b) (grid_point a) (pos 1) (pos 0)
    (record {
      first = omega (arith, ints);
      second = omega (arith, ints);
      total = omega (arith, ints);
      x = ring (a.x ∷ b.x ∷ []) (mul (sum (num (pos 1)) (num (pos 0))) (var 0)) (mul (sum (mul (num (pos 1)) (var 0)) (mul (num (pos 0)) (var 1))) (num (pos 1))) refl;
      y = ring (a.y ∷ b.y ∷ []) (mul (sum (num (pos 1)) (num (pos 0))) (var 0)) (mul (sum (mul (num (pos 1)) (var 0)) (mul (num (pos 0)) (var 1))) (num (pos 1))) refl;
    })

pub end-on : (a b : Coordinates) → IsOnEdge (edge_between a b) (grid_point b)
end-on a b =
    on_edge-mean (edge_between a b) (grid_point b) (pos 0) (pos 1)
    (record {
      first = omega (arith, ints);
      second = omega (arith, ints);
      total = omega (arith, ints);
      x = ring (a.x ∷ b.x ∷ []) (mul (sum (num (pos 0)) (num (pos 1))) (var 1)) (mul (sum (mul (num (pos 0)) (var 0)) (mul (num (pos 1)) (var 1))) (num (pos 1))) refl;
      y = ring (a.y ∷ b.y ∷ []) (mul (sum (num (pos 0)) (num (pos 1))) (var 1)) (mul (sum (mul (num (pos 0)) (var 0)) (mul (num (pos 1)) (var 1))) (num (pos 1))) refl;
    })

same-on : (e : Edge) (q p : Point) → IsPoint q → IsPoint p → IsOnEdge e q → same_point q p ≡ true → on_edge e p ≡ true
same-on e q p o r h k =
    let parts = and_parts _ _ k in
    sym (on_edge-same e q p o r (eq_from_test _ _ parts.0) (eq_from_test _ _ parts.1)) ∙ h

pub start-same-on : (a b : Coordinates) (p : Point) → IsPoint p → same_point (grid_point a) p ≡ true → on_edge (edge_between a b) p ≡ true
start-same-on a b p o h = same-on (edge_between a b) (grid_point a) p (grid-IsPoint a) o (start-on a b) h

pub end-same-on : (a b : Coordinates) (p : Point) → IsPoint p → same_point (grid_point b) p ≡ true → on_edge (edge_between a b) p ≡ true
end-same-on a b p o h = same-on (edge_between a b) (grid_point b) p (grid-IsPoint b) o (end-on a b) h

-- two grid points that are both one point are equal
pub both-same : (a b : Coordinates) (p : Point) → IsPoint p → same_point (grid_point a) p ≡ true → same_point (grid_point b) p ≡ true → is_same a b ≡ true
both-same a b p o h k =
    let along = same_point_is_equivalence.transitive (grid_point a) p (grid_point b) o h (same_point_is_equivalence.symmetric (grid_point b) p k) in
    let parts = and_parts _ _ along in
    and_from _ _
    (test_from_eq a.x b.x (sym (times-one a.x) ∙ eq_from_test _ _ parts.0 ∙ times-one b.x))
    (test_from_eq a.y b.y (sym (times-one a.y) ∙ eq_from_test _ _ parts.1 ∙ times-one b.y))

pub same-self : (a : Coordinates) → is_same a a ≡ true
same-self a = and_from _ _ (test_from_eq a.x a.x refl) (test_from_eq a.y a.y refl)

-- of an edge with length a point is at most one end, and then on it
pub one-end : (a b : Coordinates) (p : Point) → IsPoint p → is_same a b ≡ false →
    bit (same_point (grid_point a) p) + bit (same_point (grid_point b) p) ≤ bit (on_edge (edge_between a b) p)
one-end a b p o h =
    by (same_point (grid_point a) p) (same_point (grid_point b) p) (on_edge (edge_between a b) p)
    (start-same-on a b p o) (end-same-on a b p o) (λ s t. false≢true (sym h ∙ both-same a b p o s t))
  where
    by : (s t on : Bool) → (s ≡ true → on ≡ true) → (t ≡ true → on ≡ true) → (s ≡ true → t ≡ true → ⊥) → bit s + bit t ≤ bit on
    by true true on f g n = absurd (n refl refl)
    by true false on f g n = let e : bit on ≡ 1 = ap bit (f refl) in omega arith
    by false true on f g n = let e : bit on ≡ 1 = ap bit (g refl) in omega arith
    by false false on f g n = omega arith
