-- The square of the distance of a grid point from an edge is the least over the points of the edge, and one of them is so near.
use Rattle.std.proofs.Common.{◌≡◌, ◌≢◌, refl, subst, ap, sym, ◌∙◌, ℤ, pos, ◌+ℤ◌, ◌-ℤ◌, ◌*ℤ◌, ◌≤ℤ◌, ◌<ℤ◌, ◌<◌, arith, [], ◌∷◌, Bool, true, false, unsigned_abs}
use Rattle.std.specs.Prelude.{if◌then◌else◌, int_le, IsTrue}
use Rattle.std.proofs.lemmas.Bool.{and_from, and_parts}
use Rattle.std.proofs.lemmas.Int.{ints}
use Rattle.sf_grid.specs.Fraction.{Fraction, fraction_le, whole}
use Rattle.sf_grid.specs.Plane.{Coordinates, IsPoint, IsSamePoint, Point, grid_point}
use Rattle.sf_grid.specs.Edge.{Edge, IsOnEdge, cross}
use Rattle.sf_grid.proofs.Products.{square_nonneg, sum_nonneg}
use Rattle.sf_grid.proofs.Ring.{ring, var, num, sum, dif, mul}
use Rattle.sf_grid.proofs.NumberTests.{eq_from_test, le_from_test, test_from_eq, test_from_le}
use Rattle.sf_grid.proofs.MeanLaws.{IsMean, mean-on_edge, on_edge-mean, square_of-pos, weight_a, weight_b}
use Rattle.sf_distance.specs.Squares.{IsReached, square_between}
use Rattle.sf_distance.specs.Nearest.{along, square_of, square_to_edge}
use Rattle.sf_distance.proofs.WeightLaws.{end_least, line_least, scaled_least, start_least}

pub if_cases : {A : Type 0} (P : A → Type 0) (b : Bool) (x y : A) → (b ≡ true → P x) → (b ≡ false → P y) → P (if b then x else y)
if_cases P true x y f g = f refl
if_cases P false x y f g = g refl

pub gt_from_test : (a b : ℤ) → int_le a b ≡ false → b <ℤ a
gt_from_test a b h = grind (arith, ints)

times_one : (a b : ℤ) → a ≤ℤ b → a ≤ℤ (b *ℤ pos 1)
times_one a b h = omega (arith, ints)

pub size_of_pos : (z : ℤ) → pos 0 <ℤ z → pos (unsigned_abs z) ≡ z
size_of_pos z h = omega (arith, ints)

pub size_pos : (z : ℤ) → pos 0 <ℤ z → 0 < unsigned_abs z
size_pos z h = omega (arith, ints)

-- ---- the vector from a mean of the ends
abbrev pub way : ℤ → ℤ → ℤ → ℤ → ℤ → ℤ
way x a b m n = (m +ℤ n) *ℤ x -ℤ (m *ℤ a +ℤ n *ℤ b)

pub way_is : (x a b m n : ℤ) → (m +ℤ n) *ℤ (x -ℤ a) -ℤ n *ℤ (b -ℤ a) ≡ way x a b m n
way_is x a b m n = ring (x ∷ a ∷ b ∷ m ∷ n ∷ []) (dif (mul (sum (var 3) (var 4)) (dif (var 0) (var 1))) (mul (var 4) (dif (var 2) (var 1)))) (dif (mul (sum (var 3) (var 4)) (var 0)) (sum (mul (var 3) (var 1)) (mul (var 4) (var 2)))) refl

abbrev pub way_square : Edge → Coordinates → ℤ → ℤ → ℤ
way_square e p m n =
    way p.x e.a.x e.b.x m n *ℤ way p.x e.a.x e.b.x m n +ℤ way p.y e.a.y e.b.y m n *ℤ way p.y e.a.y e.b.y m n

moved : (P : ℤ → ℤ → Type 0) (e : Edge) (p : Coordinates) (m n : ℤ) →
    P ((m +ℤ n) *ℤ (p.x -ℤ e.a.x) -ℤ n *ℤ (e.b.x -ℤ e.a.x)) ((m +ℤ n) *ℤ (p.y -ℤ e.a.y) -ℤ n *ℤ (e.b.y -ℤ e.a.y)) →
    P (way p.x e.a.x e.b.x m n) (way p.y e.a.y e.b.y m n)
moved P e p m n h =
    subst (λ z. P (way p.x e.a.x e.b.x m n) z) (way_is p.y e.a.y e.b.y m n)
    (subst (λ z. P z ((m +ℤ n) *ℤ (p.y -ℤ e.a.y) -ℤ n *ℤ (e.b.y -ℤ e.a.y))) (way_is p.x e.a.x e.b.x m n) h)

-- what holds of a square of a distance and of all means
abbrev pub Bounds : Edge → Coordinates → ℤ → ℤ → Fraction → Type 0
Bounds e p m n s = (s.num *ℤ ((m +ℤ n) *ℤ (m +ℤ n))) ≤ℤ (way_square e p m n *ℤ pos s.den)

from_start : (e : Edge) (p : Coordinates) (m n : ℤ) → pos 0 ≤ℤ m → pos 0 ≤ℤ n → along e p ≤ℤ pos 0 → Bounds e p m n (whole (square_of e.a p))
from_start e p m n hm hn h =
    moved (λ x y. (square_of e.a p *ℤ ((m +ℤ n) *ℤ (m +ℤ n))) ≤ℤ ((x *ℤ x +ℤ y *ℤ y) *ℤ pos 1)) e p m n
    (times_one _ _ (start_least (p.x -ℤ e.a.x) (p.y -ℤ e.a.y) (e.b.x -ℤ e.a.x) (e.b.y -ℤ e.a.y) m n hm hn h))

from_end : (e : Edge) (p : Coordinates) (m n : ℤ) → pos 0 ≤ℤ m → pos 0 ≤ℤ n → square_of e.a e.b ≤ℤ along e p → Bounds e p m n (whole (square_of e.b p))
from_end e p m n hm hn h =
    let back : (x a b : ℤ) → (x -ℤ a) -ℤ (b -ℤ a) ≡ x -ℤ b = λ x a b. ring (x ∷ a ∷ b ∷ []) (dif (dif (var 0) (var 1)) (dif (var 2) (var 1))) (dif (var 0) (var 2)) refl in
    moved (λ x y. (square_of e.b p *ℤ ((m +ℤ n) *ℤ (m +ℤ n))) ≤ℤ ((x *ℤ x +ℤ y *ℤ y) *ℤ pos 1)) e p m n
    (times_one _ _
    (subst (λ z. (((p.x -ℤ e.b.x) *ℤ (p.x -ℤ e.b.x) +ℤ z *ℤ z) *ℤ ((m +ℤ n) *ℤ (m +ℤ n))) ≤ℤ (((m +ℤ n) *ℤ (p.x -ℤ e.a.x) -ℤ n *ℤ (e.b.x -ℤ e.a.x)) *ℤ ((m +ℤ n) *ℤ (p.x -ℤ e.a.x) -ℤ n *ℤ (e.b.x -ℤ e.a.x)) +ℤ ((m +ℤ n) *ℤ (p.y -ℤ e.a.y) -ℤ n *ℤ (e.b.y -ℤ e.a.y)) *ℤ ((m +ℤ n) *ℤ (p.y -ℤ e.a.y) -ℤ n *ℤ (e.b.y -ℤ e.a.y))))
    (back p.y e.a.y e.b.y)
    (subst (λ z. ((z *ℤ z +ℤ ((p.y -ℤ e.a.y) -ℤ (e.b.y -ℤ e.a.y)) *ℤ ((p.y -ℤ e.a.y) -ℤ (e.b.y -ℤ e.a.y))) *ℤ ((m +ℤ n) *ℤ (m +ℤ n))) ≤ℤ (((m +ℤ n) *ℤ (p.x -ℤ e.a.x) -ℤ n *ℤ (e.b.x -ℤ e.a.x)) *ℤ ((m +ℤ n) *ℤ (p.x -ℤ e.a.x) -ℤ n *ℤ (e.b.x -ℤ e.a.x)) +ℤ ((m +ℤ n) *ℤ (p.y -ℤ e.a.y) -ℤ n *ℤ (e.b.y -ℤ e.a.y)) *ℤ ((m +ℤ n) *ℤ (p.y -ℤ e.a.y) -ℤ n *ℤ (e.b.y -ℤ e.a.y))))
    (back p.x e.a.x e.b.x)
    (end_least (p.x -ℤ e.a.x) (p.y -ℤ e.a.y) (e.b.x -ℤ e.a.x) (e.b.y -ℤ e.a.y) m n hm hn h))))

pub cross_is : (e : Edge) (p : Coordinates) → (e.b.x -ℤ e.a.x) *ℤ (p.y -ℤ e.a.y) -ℤ (e.b.y -ℤ e.a.y) *ℤ (p.x -ℤ e.a.x) ≡ cross e.a e.b (grid_point p)
cross_is e p =
    ring (e.a.x ∷ e.a.y ∷ e.b.x ∷ e.b.y ∷ p.x ∷ p.y ∷ []) (dif (mul (dif (var 2) (var 0)) (dif (var 5) (var 1))) (mul (dif (var 3) (var 1)) (dif (var 4) (var 0)))) (dif (mul (dif (var 2) (var 0)) (dif (var 5) (mul (var 1) (num (pos 1))))) (mul (dif (var 3) (var 1)) (dif (var 4) (mul (var 0) (num (pos 1)))))) refl

from_line : (e : Edge) (p : Coordinates) (m n : ℤ) → pos 0 <ℤ square_of e.a e.b →
    Bounds e p m n (record { num = cross e.a e.b (grid_point p) *ℤ cross e.a e.b (grid_point p); den = unsigned_abs (square_of e.a e.b) })
from_line e p m n h =
    subst (λ z. ((cross e.a e.b (grid_point p) *ℤ cross e.a e.b (grid_point p)) *ℤ ((m +ℤ n) *ℤ (m +ℤ n))) ≤ℤ (way_square e p m n *ℤ z)) (sym (size_of_pos (square_of e.a e.b) h))
    (moved (λ x y. ((cross e.a e.b (grid_point p) *ℤ cross e.a e.b (grid_point p)) *ℤ ((m +ℤ n) *ℤ (m +ℤ n))) ≤ℤ ((x *ℤ x +ℤ y *ℤ y) *ℤ square_of e.a e.b)) e p m n
    (subst (λ z. ((z *ℤ z) *ℤ ((m +ℤ n) *ℤ (m +ℤ n))) ≤ℤ ((((m +ℤ n) *ℤ (p.x -ℤ e.a.x) -ℤ n *ℤ (e.b.x -ℤ e.a.x)) *ℤ ((m +ℤ n) *ℤ (p.x -ℤ e.a.x) -ℤ n *ℤ (e.b.x -ℤ e.a.x)) +ℤ ((m +ℤ n) *ℤ (p.y -ℤ e.a.y) -ℤ n *ℤ (e.b.y -ℤ e.a.y)) *ℤ ((m +ℤ n) *ℤ (p.y -ℤ e.a.y) -ℤ n *ℤ (e.b.y -ℤ e.a.y))) *ℤ square_of e.a e.b))
    (cross_is e p)
    (line_least (p.x -ℤ e.a.x) (p.y -ℤ e.a.y) (e.b.x -ℤ e.a.x) (e.b.y -ℤ e.a.y) m n)))

pub bound_at : (e : Edge) (p : Coordinates) (m n : ℤ) → e.a ≢ e.b → pos 0 ≤ℤ m → pos 0 ≤ℤ n → Bounds e p m n (square_to_edge e p)
bound_at e p m n d hm hn =
    if_cases (Bounds e p m n) (int_le (along e p) (pos 0)) (whole (square_of e.a p)) _
    (λ t. from_start e p m n hm hn (le_from_test _ _ t))
    (λ t. if_cases (Bounds e p m n) (int_le (square_of e.a e.b) (along e p)) (whole (square_of e.b p)) _
    (λ s. from_end e p m n hm hn (le_from_test _ _ s))
    (λ s. from_line e p m n (square_of-pos e.a e.b d)))

-- its denominator is positive, its numerator isn't negative
pub record IsSquare (s : Fraction) : Type 0 where
  pub positive : 0 < s.den
  pub nonneg : pos 0 ≤ℤ s.num

square_of-nonneg : (a b : Coordinates) → pos 0 ≤ℤ square_of a b
square_of-nonneg a b = sum_nonneg ((b.x -ℤ a.x) *ℤ (b.x -ℤ a.x)) ((b.y -ℤ a.y) *ℤ (b.y -ℤ a.y)) (square_nonneg (b.x -ℤ a.x)) (square_nonneg (b.y -ℤ a.y))

pub is_square : (e : Edge) (p : Coordinates) → e.a ≢ e.b → IsSquare (square_to_edge e p)
is_square e p d =
    if_cases IsSquare (int_le (along e p) (pos 0)) (whole (square_of e.a p)) _
    (λ t. record { positive = omega arith; nonneg = square_of-nonneg e.a p })
    (λ t. if_cases IsSquare (int_le (square_of e.a e.b) (along e p)) (whole (square_of e.b p)) _
    (λ s. record { positive = omega arith; nonneg = square_of-nonneg e.b p })
    (λ s. record { positive = size_pos (square_of e.a e.b) (square_of-pos e.a e.b d); nonneg = square_nonneg (cross e.a e.b (grid_point p)) }))

-- ---- over all points of the edge
mean_scaled : (px pd x a b m n qx qd : ℤ) → px ≡ x *ℤ pd → (m +ℤ n) *ℤ qx ≡ (m *ℤ a +ℤ n *ℤ b) *ℤ qd → (m +ℤ n) *ℤ (px *ℤ qd -ℤ qx *ℤ pd) ≡ (pd *ℤ qd) *ℤ way x a b m n
mean_scaled px pd x a b m n qx qd f e =
    ring (px ∷ pd ∷ m ∷ n ∷ qx ∷ qd ∷ []) (mul (sum (var 2) (var 3)) (dif (mul (var 0) (var 5)) (mul (var 4) (var 1)))) (dif (mul (mul (sum (var 2) (var 3)) (var 0)) (var 5)) (mul (mul (sum (var 2) (var 3)) (var 4)) (var 1))) refl
    ∙ ap (λ z. (m +ℤ n) *ℤ z *ℤ qd -ℤ (m +ℤ n) *ℤ qx *ℤ pd) f
    ∙ ap (λ z. (m +ℤ n) *ℤ (x *ℤ pd) *ℤ qd -ℤ z *ℤ pd) e
    ∙ ring (x ∷ pd ∷ a ∷ b ∷ m ∷ n ∷ qd ∷ []) (dif (mul (mul (sum (var 4) (var 5)) (mul (var 0) (var 1))) (var 6)) (mul (mul (sum (mul (var 4) (var 2)) (mul (var 5) (var 3))) (var 6)) (var 1))) (mul (mul (var 1) (var 6)) (dif (mul (sum (var 4) (var 5)) (var 0)) (sum (mul (var 4) (var 2)) (mul (var 5) (var 3))))) refl

no_denominator : (a b : ℤ) → a *ℤ pos 1 ≡ b → a ≡ b
no_denominator a b h = omega (arith, ints)

pub least_to_edge : (e : Edge) (x : Coordinates) (p q : Point) → e.a ≢ e.b → IsPoint q → IsSamePoint p (grid_point x) → IsOnEdge e q →
    IsTrue (fraction_le (square_to_edge e x) (square_between p q))
least_to_edge e x p q d o same h =
    let mean = mean-on_edge e q o d h in
    let at = and_parts _ _ same in
    test_from_le _ _
    (scaled_least (square_to_edge e x).num (pos (square_to_edge e x).den) (p.x *ℤ pos q.d -ℤ q.x *ℤ pos p.d) (p.y *ℤ pos q.d -ℤ q.y *ℤ pos p.d)
    (way x.x e.a.x e.b.x (weight_a e q) (weight_b e q)) (way x.y e.a.y e.b.y (weight_a e q) (weight_b e q)) (weight_a e q +ℤ weight_b e q) (pos p.d *ℤ pos q.d) mean.total
    (mean_scaled p.x (pos p.d) x.x e.a.x e.b.x (weight_a e q) (weight_b e q) q.x (pos q.d) (no_denominator _ _ (eq_from_test (p.x *ℤ pos 1) (x.x *ℤ pos p.d) at.0)) mean.x)
    (mean_scaled p.y (pos p.d) x.y e.a.y e.b.y (weight_a e q) (weight_b e q) q.y (pos q.d) (no_denominator _ _ (eq_from_test (p.y *ℤ pos 1) (x.y *ℤ pos p.d) at.1)) mean.y)
    (bound_at e x (weight_a e q) (weight_b e q) d mean.first mean.second))

-- ---- one of them is so near
abbrev pub foot : Edge → Coordinates → Point
foot e p =
    record {
      x = (square_of e.a e.b -ℤ along e p) *ℤ e.a.x +ℤ along e p *ℤ e.b.x;
      y = (square_of e.a e.b -ℤ along e p) *ℤ e.a.y +ℤ along e p *ℤ e.b.y;
      d = unsigned_abs (square_of e.a e.b);
    }

abbrev ReachedAt : Edge → Coordinates → Fraction → Type 0
ReachedAt e p s = IsReached (λ q. IsSamePoint q (grid_point p)) (IsOnEdge e) s

pub same_self : (p : Point) → IsSamePoint p p
same_self p = and_from _ _ (test_from_eq (p.x *ℤ pos p.d) (p.x *ℤ pos p.d) refl) (test_from_eq (p.y *ℤ pos p.d) (p.y *ℤ pos p.d) refl)

pub mean_of_start : (e : Edge) → IsMean e (grid_point e.a) (pos 1) (pos 0)
mean_of_start e =
    record {
      first = omega (arith, ints);
      second = omega (arith, ints);
      total = omega (arith, ints);
      x = ring (e.a.x ∷ e.b.x ∷ []) (mul (sum (num (pos 1)) (num (pos 0))) (var 0)) (mul (sum (mul (num (pos 1)) (var 0)) (mul (num (pos 0)) (var 1))) (num (pos 1))) refl;
      y = ring (e.a.y ∷ e.b.y ∷ []) (mul (sum (num (pos 1)) (num (pos 0))) (var 0)) (mul (sum (mul (num (pos 1)) (var 0)) (mul (num (pos 0)) (var 1))) (num (pos 1))) refl;
    }

pub mean_of_end : (e : Edge) → IsMean e (grid_point e.b) (pos 0) (pos 1)
mean_of_end e =
    record {
      first = omega (arith, ints);
      second = omega (arith, ints);
      total = omega (arith, ints);
      x = ring (e.a.x ∷ e.b.x ∷ []) (mul (sum (num (pos 0)) (num (pos 1))) (var 1)) (mul (sum (mul (num (pos 0)) (var 0)) (mul (num (pos 1)) (var 1))) (num (pos 1))) refl;
      y = ring (e.a.y ∷ e.b.y ∷ []) (mul (sum (num (pos 0)) (num (pos 1))) (var 1)) (mul (sum (mul (num (pos 0)) (var 0)) (mul (num (pos 1)) (var 1))) (num (pos 1))) refl;
    }

reached_start : (e : Edge) (p : Coordinates) → ReachedAt e p (whole (square_of e.a p))
reached_start e p =
    record {
      first = grid_point p;
      second = grid_point e.a;
      first_is_point = record { positive = omega arith };
      second_is_point = record { positive = omega arith };
      in_first = same_self (grid_point p);
      in_second = on_edge-mean e (grid_point e.a) (pos 1) (pos 0) (mean_of_start e);
      reached = test_from_eq _ _ (ring (e.a.x ∷ e.a.y ∷ p.x ∷ p.y ∷ []) (mul (sum (mul (dif (mul (var 2) (num (pos 1))) (mul (var 0) (num (pos 1)))) (dif (mul (var 2) (num (pos 1))) (mul (var 0) (num (pos 1))))) (mul (dif (mul (var 3) (num (pos 1))) (mul (var 1) (num (pos 1)))) (dif (mul (var 3) (num (pos 1))) (mul (var 1) (num (pos 1)))))) (num (pos 1))) (mul (sum (mul (dif (var 2) (var 0)) (dif (var 2) (var 0))) (mul (dif (var 3) (var 1)) (dif (var 3) (var 1)))) (num (pos 1))) refl);
    }

reached_end : (e : Edge) (p : Coordinates) → ReachedAt e p (whole (square_of e.b p))
reached_end e p =
    record {
      first = grid_point p;
      second = grid_point e.b;
      first_is_point = record { positive = omega arith };
      second_is_point = record { positive = omega arith };
      in_first = same_self (grid_point p);
      in_second = on_edge-mean e (grid_point e.b) (pos 0) (pos 1) (mean_of_end e);
      reached = test_from_eq _ _ (ring (e.b.x ∷ e.b.y ∷ p.x ∷ p.y ∷ []) (mul (sum (mul (dif (mul (var 2) (num (pos 1))) (mul (var 0) (num (pos 1)))) (dif (mul (var 2) (num (pos 1))) (mul (var 0) (num (pos 1))))) (mul (dif (mul (var 3) (num (pos 1))) (mul (var 1) (num (pos 1)))) (dif (mul (var 3) (num (pos 1))) (mul (var 1) (num (pos 1)))))) (num (pos 1))) (mul (sum (mul (dif (var 2) (var 0)) (dif (var 2) (var 0))) (mul (dif (var 3) (var 1)) (dif (var 3) (var 1)))) (num (pos 1))) refl);
    }

-- L, u of the vectors r and k; X their cross product
foot_square : (rx ry kx ky : ℤ) →
    (((kx *ℤ kx +ℤ ky *ℤ ky) *ℤ rx -ℤ (kx *ℤ rx +ℤ ky *ℤ ry) *ℤ kx) *ℤ ((kx *ℤ kx +ℤ ky *ℤ ky) *ℤ rx -ℤ (kx *ℤ rx +ℤ ky *ℤ ry) *ℤ kx)
    +ℤ ((kx *ℤ kx +ℤ ky *ℤ ky) *ℤ ry -ℤ (kx *ℤ rx +ℤ ky *ℤ ry) *ℤ ky) *ℤ ((kx *ℤ kx +ℤ ky *ℤ ky) *ℤ ry -ℤ (kx *ℤ rx +ℤ ky *ℤ ry) *ℤ ky)) *ℤ (kx *ℤ kx +ℤ ky *ℤ ky)
    ≡ ((kx *ℤ ry -ℤ ky *ℤ rx) *ℤ (kx *ℤ ry -ℤ ky *ℤ rx)) *ℤ ((kx *ℤ kx +ℤ ky *ℤ ky) *ℤ (kx *ℤ kx +ℤ ky *ℤ ky))
foot_square rx ry kx ky =
    ring (rx ∷ ry ∷ kx ∷ ky ∷ []) (mul (sum (mul (dif (mul (sum (mul (var 2) (var 2)) (mul (var 3) (var 3))) (var 0)) (mul (sum (mul (var 2) (var 0)) (mul (var 3) (var 1))) (var 2))) (dif (mul (sum (mul (var 2) (var 2)) (mul (var 3) (var 3))) (var 0)) (mul (sum (mul (var 2) (var 0)) (mul (var 3) (var 1))) (var 2)))) (mul (dif (mul (sum (mul (var 2) (var 2)) (mul (var 3) (var 3))) (var 1)) (mul (sum (mul (var 2) (var 0)) (mul (var 3) (var 1))) (var 3))) (dif (mul (sum (mul (var 2) (var 2)) (mul (var 3) (var 3))) (var 1)) (mul (sum (mul (var 2) (var 0)) (mul (var 3) (var 1))) (var 3))))) (sum (mul (var 2) (var 2)) (mul (var 3) (var 3)))) (mul (mul (dif (mul (var 2) (var 1)) (mul (var 3) (var 0))) (dif (mul (var 2) (var 1)) (mul (var 3) (var 0)))) (mul (sum (mul (var 2) (var 2)) (mul (var 3) (var 3))) (sum (mul (var 2) (var 2)) (mul (var 3) (var 3))))) refl

foot_way : (x a b L u : ℤ) → x *ℤ L -ℤ ((L -ℤ u) *ℤ a +ℤ u *ℤ b) *ℤ pos 1 ≡ L *ℤ (x -ℤ a) -ℤ u *ℤ (b -ℤ a)
foot_way x a b L u = ring (x ∷ a ∷ b ∷ L ∷ u ∷ []) (dif (mul (var 0) (var 3)) (mul (sum (mul (dif (var 3) (var 4)) (var 1)) (mul (var 4) (var 2))) (num (pos 1)))) (dif (mul (var 3) (dif (var 0) (var 1))) (mul (var 4) (dif (var 2) (var 1)))) refl

foot_reached : (e : Edge) (p : Coordinates) (z : ℤ) → z ≡ square_of e.a e.b →
    ((p.x *ℤ z -ℤ (foot e p).x *ℤ pos 1) *ℤ (p.x *ℤ z -ℤ (foot e p).x *ℤ pos 1) +ℤ (p.y *ℤ z -ℤ (foot e p).y *ℤ pos 1) *ℤ (p.y *ℤ z -ℤ (foot e p).y *ℤ pos 1)) *ℤ z
    ≡ (cross e.a e.b (grid_point p) *ℤ cross e.a e.b (grid_point p)) *ℤ ((pos 1 *ℤ z) *ℤ (pos 1 *ℤ z))
foot_reached e p z h =
    subst (λ w. ((p.x *ℤ w -ℤ (foot e p).x *ℤ pos 1) *ℤ (p.x *ℤ w -ℤ (foot e p).x *ℤ pos 1) +ℤ (p.y *ℤ w -ℤ (foot e p).y *ℤ pos 1) *ℤ (p.y *ℤ w -ℤ (foot e p).y *ℤ pos 1)) *ℤ w
    ≡ (cross e.a e.b (grid_point p) *ℤ cross e.a e.b (grid_point p)) *ℤ ((pos 1 *ℤ w) *ℤ (pos 1 *ℤ w))) (sym h)
    (ap (λ t. (t *ℤ t +ℤ (p.y *ℤ square_of e.a e.b -ℤ (foot e p).y *ℤ pos 1) *ℤ (p.y *ℤ square_of e.a e.b -ℤ (foot e p).y *ℤ pos 1)) *ℤ square_of e.a e.b) (foot_way p.x e.a.x e.b.x (square_of e.a e.b) (along e p))
    ∙ ap (λ t. ((square_of e.a e.b *ℤ (p.x -ℤ e.a.x) -ℤ along e p *ℤ (e.b.x -ℤ e.a.x)) *ℤ (square_of e.a e.b *ℤ (p.x -ℤ e.a.x) -ℤ along e p *ℤ (e.b.x -ℤ e.a.x)) +ℤ t *ℤ t) *ℤ square_of e.a e.b) (foot_way p.y e.a.y e.b.y (square_of e.a e.b) (along e p))
    ∙ foot_square (p.x -ℤ e.a.x) (p.y -ℤ e.a.y) (e.b.x -ℤ e.a.x) (e.b.y -ℤ e.a.y)
    ∙ ap (λ t. (t *ℤ t) *ℤ (square_of e.a e.b *ℤ square_of e.a e.b)) (cross_is e p)
    ∙ ring ((cross e.a e.b (grid_point p)) ∷ (square_of e.a e.b) ∷ []) (mul (mul (var 0) (var 0)) (mul (var 1) (var 1))) (mul (mul (var 0) (var 0)) (mul (mul (num (pos 1)) (var 1)) (mul (num (pos 1)) (var 1)))) refl)

mean_foot : (z s u a b : ℤ) → z ≡ s → ((s -ℤ u) +ℤ u) *ℤ ((s -ℤ u) *ℤ a +ℤ u *ℤ b) ≡ ((s -ℤ u) *ℤ a +ℤ u *ℤ b) *ℤ z
mean_foot z s u a b h =
    subst (λ w. ((s -ℤ u) +ℤ u) *ℤ ((s -ℤ u) *ℤ a +ℤ u *ℤ b) ≡ ((s -ℤ u) *ℤ a +ℤ u *ℤ b) *ℤ w) (sym h)
    (ring (s ∷ u ∷ a ∷ b ∷ []) (mul (sum (dif (var 0) (var 1)) (var 1)) (sum (mul (dif (var 0) (var 1)) (var 2)) (mul (var 1) (var 3)))) (mul (sum (mul (dif (var 0) (var 1)) (var 2)) (mul (var 1) (var 3))) (var 0)) refl)

reached_foot : (e : Edge) (p : Coordinates) → pos 0 <ℤ square_of e.a e.b → pos 0 <ℤ along e p → along e p <ℤ square_of e.a e.b →
    ReachedAt e p (record { num = cross e.a e.b (grid_point p) *ℤ cross e.a e.b (grid_point p); den = unsigned_abs (square_of e.a e.b) })
reached_foot e p h low high =
    let size : pos (unsigned_abs (square_of e.a e.b)) ≡ square_of e.a e.b = size_of_pos (square_of e.a e.b) h in
    record {
      first = grid_point p;
      second = foot e p;
      first_is_point = record { positive = omega arith };
      second_is_point = record { positive = size_pos (square_of e.a e.b) h };
      in_first = same_self (grid_point p);
      in_second =
          on_edge-mean e (foot e p) (square_of e.a e.b -ℤ along e p) (along e p)
          (record {
            first = omega (arith, ints);
            second = omega (arith, ints);
            total = omega (arith, ints);
            x = mean_foot (pos (unsigned_abs (square_of e.a e.b))) (square_of e.a e.b) (along e p) e.a.x e.b.x size;
            y = mean_foot (pos (unsigned_abs (square_of e.a e.b))) (square_of e.a e.b) (along e p) e.a.y e.b.y size;
          });
      reached = test_from_eq _ _ (foot_reached e p (pos (unsigned_abs (square_of e.a e.b))) size);
    }

pub reached_on_edge : (e : Edge) (p : Coordinates) → e.a ≢ e.b → IsReached (λ q. IsSamePoint q (grid_point p)) (IsOnEdge e) (square_to_edge e p)
reached_on_edge e p d =
    if_cases (ReachedAt e p) (int_le (along e p) (pos 0)) (whole (square_of e.a p)) _
    (λ t. reached_start e p)
    (λ t. if_cases (ReachedAt e p) (int_le (square_of e.a e.b) (along e p)) (whole (square_of e.b p)) _
    (λ s. reached_end e p)
    (λ s. reached_foot e p (square_of-pos e.a e.b d) (gt_from_test _ _ t) (gt_from_test _ _ s)))
