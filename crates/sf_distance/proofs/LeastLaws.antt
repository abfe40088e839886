-- The least of the four distances of ends is the least distance of two edges that share no point.
use Rattle.std.proofs.Common.{◌≡◌, ◌≢◌, refl, ap, ◌∙◌, ℤ, pos, ◌+ℤ◌, ◌-ℤ◌, ◌*ℤ◌, ◌≤ℤ◌, ◌<ℤ◌, arith, [], ◌∷◌, inl, inr}
use Rattle.std.specs.Prelude.{IsTrue}
use Rattle.std.proofs.lemmas.Int.{ints}
use Rattle.sf_grid.specs.Fraction.{Fraction, IsFraction, fraction_eq, fraction_le}
use Rattle.sf_grid.specs.Plane.{Coordinates, IsPoint, Point, grid_point}
use Rattle.sf_grid.specs.Edge.{Edge, IsOnEdge}
use Rattle.sf_grid.specs.Sharing.{IsSharing}
use Rattle.sf_grid.specs.declared.meet.Meet.TheVariants.{Apart}
use Rattle.sf_grid.proofs.Products.{mul_nonneg-nonneg, mul_pos-pos, nonneg_from_mul, square_nonneg}
use Rattle.sf_grid.proofs.Ring.{ring, var, sum, dif, mul}
use Rattle.sf_grid.proofs.NumberTests.{eq_from_test, le_from_test, test_from_eq, test_from_le}
use Rattle.sf_grid.proofs.FractionLaws.{le-trans}
use Rattle.sf_grid.proofs.MeanLaws.{mean-on_edge, on_edge-mean, weight_a, weight_b}
use Rattle.sf_grid.proofs.CrossingLaws.{on_edge-same_point}
use Rattle.sf_distance.specs.Squares.{IsReached, square_between}
use Rattle.sf_distance.specs.Nearest.{lesser, square_of_ends, square_to_edge}
use Rattle.sf_distance.specs.Laws.{EndsAreNearest, FeetAreNearest}
use Rattle.sf_distance.proofs.WeightLaws.{scaled_least}
use Rattle.sf_distance.proofs.PointLaws.{IsSquare, bound_at, gt_from_test, if_cases, is_square, least_to_edge, mean_of_end, mean_of_start, reached_on_edge, way_square}
use Rattle.sf_distance.proofs.EdgeLaws.{AreWeights, HaveNear, IsNear, apart, nears, square_apart}

-- a bound by a mean of an edge's ends leads to one by what is computed
through : (n c t s v w : ℤ) → pos 0 <ℤ t → pos 0 ≤ℤ c → (n *ℤ (t *ℤ t)) ≤ℤ (v *ℤ c) → (v *ℤ (s *ℤ s)) ≤ℤ ((t *ℤ t) *ℤ w) → (n *ℤ (s *ℤ s)) ≤ℤ (w *ℤ c)
through n c t s v w p q h k =
    let first : pos 0 ≤ℤ (((t *ℤ t) *ℤ w -ℤ v *ℤ (s *ℤ s)) *ℤ c) = mul_nonneg-nonneg ((t *ℤ t) *ℤ w -ℤ v *ℤ (s *ℤ s)) c (omega (arith, ints)) q in
    let second : pos 0 ≤ℤ ((v *ℤ c -ℤ n *ℤ (t *ℤ t)) *ℤ (s *ℤ s)) = mul_nonneg-nonneg (v *ℤ c -ℤ n *ℤ (t *ℤ t)) (s *ℤ s) (omega (arith, ints)) (square_nonneg s) in
    let is : (t *ℤ t) *ℤ (w *ℤ c -ℤ n *ℤ (s *ℤ s)) ≡ ((t *ℤ t) *ℤ w -ℤ v *ℤ (s *ℤ s)) *ℤ c +ℤ (v *ℤ c -ℤ n *ℤ (t *ℤ t)) *ℤ (s *ℤ s) =
    ring (n ∷ c ∷ t ∷ s ∷ v ∷ w ∷ []) (mul (mul (var 2) (var 2)) (dif (mul (var 5) (var 1)) (mul (var 0) (mul (var 3) (var 3))))) (sum (mul (dif (mul (mul (var 2) (var 2)) (var 5)) (mul (var 4) (mul (var 3) (var 3)))) (var 1)) (mul (dif (mul (var 4) (var 1)) (mul (var 0) (mul (var 2) (var 2)))) (mul (var 3) (var 3)))) refl in
    let gap : pos 0 ≤ℤ (w *ℤ c -ℤ n *ℤ (s *ℤ s)) = nonneg_from_mul (t *ℤ t) (w *ℤ c -ℤ n *ℤ (s *ℤ s)) (mul_pos-pos t t p p) (omega (arith, ints)) in
    omega (arith, ints)

pos_nonneg : (s : Fraction) → pos 0 ≤ℤ pos s.den
pos_nonneg s = omega (arith, ints)

near_bound : (x : Coordinates) (g : Edge) (s w : ℤ) → g.a ≢ g.b → IsNear x g s w → ((square_to_edge g x).num *ℤ (s *ℤ s)) ≤ℤ (w *ℤ pos (square_to_edge g x).den)
near_bound x g s w d c =
    through (square_to_edge g x).num (pos (square_to_edge g x).den) (c.first +ℤ c.second) s (way_square g x c.first c.second) w c.total
    (pos_nonneg (square_to_edge g x)) (bound_at g x c.first c.second d c.first_nonneg c.second_nonneg) c.close

-- ---- two points by their weights
pair_scaled : (px pd qx qd a b c d m n k l : ℤ) → (m +ℤ n) *ℤ px ≡ (m *ℤ a +ℤ n *ℤ b) *ℤ pd → (k +ℤ l) *ℤ qx ≡ (k *ℤ c +ℤ l *ℤ d) *ℤ qd →
    ((m +ℤ n) *ℤ (k +ℤ l)) *ℤ (px *ℤ qd -ℤ qx *ℤ pd) ≡ (pd *ℤ qd) *ℤ apart a b c d m n k l
pair_scaled px pd qx qd a b c d m n k l e f =
    ring (px ∷ pd ∷ qx ∷ qd ∷ m ∷ n ∷ k ∷ l ∷ []) (mul (mul (sum (var 4) (var 5)) (sum (var 6) (var 7))) (dif (mul (var 0) (var 3)) (mul (var 2) (var 1)))) (dif (mul (mul (sum (var 6) (var 7)) (mul (sum (var 4) (var 5)) (var 0))) (var 3)) (mul (mul (sum (var 4) (var 5)) (mul (sum (var 6) (var 7)) (var 2))) (var 1))) refl
    ∙ ap (λ z. (k +ℤ l) *ℤ z *ℤ qd -ℤ (m +ℤ n) *ℤ ((k +ℤ l) *ℤ qx) *ℤ pd) e
    ∙ ap (λ z. (k +ℤ l) *ℤ ((m *ℤ a +ℤ n *ℤ b) *ℤ pd) *ℤ qd -ℤ (m +ℤ n) *ℤ z *ℤ pd) f
    ∙ ring ((m +ℤ n) ∷ (k +ℤ l) ∷ (m *ℤ a +ℤ n *ℤ b) ∷ (k *ℤ c +ℤ l *ℤ d) ∷ pd ∷ qd ∷ []) (dif (mul (mul (var 1) (mul (var 2) (var 4))) (var 5)) (mul (mul (var 0) (mul (var 3) (var 5))) (var 4))) (mul (mul (var 4) (var 5)) (dif (mul (var 1) (var 2)) (mul (var 0) (var 3)))) refl

least_by : (e f : Edge) (p q : Point) (m n k l : ℤ) (s : Fraction) → AreWeights m n k l →
    (m +ℤ n) *ℤ p.x ≡ (m *ℤ e.a.x +ℤ n *ℤ e.b.x) *ℤ pos p.d → (m +ℤ n) *ℤ p.y ≡ (m *ℤ e.a.y +ℤ n *ℤ e.b.y) *ℤ pos p.d →
    (k +ℤ l) *ℤ q.x ≡ (k *ℤ f.a.x +ℤ l *ℤ f.b.x) *ℤ pos q.d → (k +ℤ l) *ℤ q.y ≡ (k *ℤ f.a.y +ℤ l *ℤ f.b.y) *ℤ pos q.d →
    (s.num *ℤ (((m +ℤ n) *ℤ (k +ℤ l)) *ℤ ((m +ℤ n) *ℤ (k +ℤ l)))) ≤ℤ (square_apart e f m n k l *ℤ pos s.den) →
    IsTrue (fraction_le s (square_between p q))
least_by e f p q m n k l s a px py qx qy h =
    test_from_le _ _
    (scaled_least s.num (pos s.den) (p.x *ℤ pos q.d -ℤ q.x *ℤ pos p.d) (p.y *ℤ pos q.d -ℤ q.y *ℤ pos p.d)
    (apart e.a.x e.b.x f.a.x f.b.x m n k l) (apart e.a.y e.b.y f.a.y f.b.y m n k l) ((m +ℤ n) *ℤ (k +ℤ l)) (pos p.d *ℤ pos q.d)
    (mul_pos-pos (m +ℤ n) (k +ℤ l) a.first_total a.second_total)
    (pair_scaled p.x (pos p.d) q.x (pos q.d) e.a.x e.b.x f.a.x f.b.x m n k l px qx)
    (pair_scaled p.y (pos p.d) q.y (pos q.d) e.a.y e.b.y f.a.y f.b.y m n k l py qy)
    h)

-- ---- the lesser of two
number : (s : Fraction) → IsSquare s → IsFraction s
number s h = record { positive = h.positive }

lesser_square : (a b : Fraction) → IsSquare a → IsSquare b → IsSquare (lesser a b)
lesser_square a b h k = if_cases IsSquare (fraction_le a b) a b (λ t. h) (λ t. k)

first_is_less : (a b s : Fraction) → IsSquare a → IsTrue (fraction_le a s) → IsTrue (fraction_le (lesser a b) s)
first_is_less a b s n h =
    if_cases (λ t. IsTrue (fraction_le t s)) (fraction_le a b) a b (λ t. h)
    (λ t. let k : (b.num *ℤ pos a.den) <ℤ (a.num *ℤ pos b.den) = gt_from_test (a.num *ℤ pos b.den) (b.num *ℤ pos a.den) t in
    test_from_le _ _ (le-trans b a s (number a n) (omega (arith, ints)) (le_from_test _ _ h)))

second_is_less : (a b s : Fraction) → IsSquare b → IsTrue (fraction_le b s) → IsTrue (fraction_le (lesser a b) s)
second_is_less a b s n h =
    if_cases (λ t. IsTrue (fraction_le t s)) (fraction_le a b) a b
    (λ t. test_from_le _ _ (le-trans a b s (number b n) (le_from_test _ _ t) (le_from_test _ _ h)))
    (λ t. h)

-- ---- the least of all points
least_between : (e f : Edge) (p q : Point) → e.a ≢ e.b → f.a ≢ f.b → IsSharing e f Apart → IsPoint p → IsPoint q → IsOnEdge e p → IsOnEdge f q →
    IsTrue (fraction_le (square_of_ends e f) (square_between p q))
least_between e f p q d g none o i h j =
    let mean = mean-on_edge e p o d h in
    let other = mean-on_edge f q i g j in
    let weights : AreWeights (weight_a e p) (weight_b e p) (weight_a f q) (weight_b f q) =
    record { m_nonneg = mean.first; n_nonneg = mean.second; k_nonneg = other.first; l_nonneg = other.second; first_total = mean.total; second_total = other.total } in
    found (nears e f (weight_a e p) (weight_b e p) (weight_a f q) (weight_b f q) weights d g none)
    (λ x y c n. least_by e f p q (weight_a e p) (weight_b e p) (weight_a f q) (weight_b f q) (square_to_edge y x) weights mean.x mean.y other.x other.y
    (near_bound x y ((weight_a e p +ℤ weight_b e p) *ℤ (weight_a f q +ℤ weight_b f q)) (square_apart e f (weight_a e p) (weight_b e p) (weight_a f q) (weight_b f q)) n c))
  where
    found : HaveNear e f ((weight_a e p +ℤ weight_b e p) *ℤ (weight_a f q +ℤ weight_b f q)) (square_apart e f (weight_a e p) (weight_b e p) (weight_a f q) (weight_b f q)) →
        ((x : Coordinates) (y : Edge) → IsNear x y ((weight_a e p +ℤ weight_b e p) *ℤ (weight_a f q +ℤ weight_b f q)) (square_apart e f (weight_a e p) (weight_b e p) (weight_a f q) (weight_b f q)) → y.a ≢ y.b → IsTrue (fraction_le (square_to_edge y x) (square_between p q))) →
        IsTrue (fraction_le (square_of_ends e f) (square_between p q))
    found (inl (inl c)) bound =
        first_is_less _ _ _ (lesser_square _ _ (is_square f e.a g) (is_square f e.b g)) (first_is_less _ _ _ (is_square f e.a g) (bound e.a f c g))
    found (inl (inr c)) bound =
        first_is_less _ _ _ (lesser_square _ _ (is_square f e.a g) (is_square f e.b g)) (second_is_less _ _ _ (is_square f e.b g) (bound e.b f c g))
    found (inr (inl c)) bound =
        second_is_less _ _ _ (lesser_square _ _ (is_square e f.a d) (is_square e f.b d)) (first_is_less _ _ _ (is_square e f.a d) (bound f.a e c d))
    found (inr (inr c)) bound =
        second_is_less _ _ _ (lesser_square _ _ (is_square e f.a d) (is_square e f.b d)) (second_is_less _ _ _ (is_square e f.b d) (bound f.b e c d))

-- ---- two points are so far apart
pub flipped : (p q : Point) (s : Fraction) → IsTrue (fraction_eq (square_between p q) s) → IsTrue (fraction_eq (square_between q p) s)
flipped p q s h =
    test_from_eq _ _
    (ring (p.x ∷ p.y ∷ (pos p.d) ∷ q.x ∷ q.y ∷ (pos q.d) ∷ (pos s.den) ∷ []) (mul (sum (mul (dif (mul (var 3) (var 2)) (mul (var 0) (var 5))) (dif (mul (var 3) (var 2)) (mul (var 0) (var 5)))) (mul (dif (mul (var 4) (var 2)) (mul (var 1) (var 5))) (dif (mul (var 4) (var 2)) (mul (var 1) (var 5))))) (var 6)) (mul (sum (mul (dif (mul (var 0) (var 5)) (mul (var 3) (var 2))) (dif (mul (var 0) (var 5)) (mul (var 3) (var 2)))) (mul (dif (mul (var 1) (var 5)) (mul (var 4) (var 2))) (dif (mul (var 1) (var 5)) (mul (var 4) (var 2))))) (var 6)) refl
    ∙ eq_from_test _ _ h
    ∙ ring (s.num ∷ (pos p.d) ∷ (pos q.d) ∷ []) (mul (var 0) (mul (mul (var 1) (var 2)) (mul (var 1) (var 2)))) (mul (var 0) (mul (mul (var 2) (var 1)) (mul (var 2) (var 1)))) refl)

pub le_flipped : (p q : Point) (s : Fraction) → IsTrue (fraction_le s (square_between p q)) → IsTrue (fraction_le s (square_between q p))
le_flipped p q s h =
    test_from_le _ _
    (moved
    (s.num *ℤ (pos p.d *ℤ pos q.d *ℤ (pos p.d *ℤ pos q.d))) (s.num *ℤ (pos q.d *ℤ pos p.d *ℤ (pos q.d *ℤ pos p.d)))
    ((square_between p q).num *ℤ pos s.den) ((square_between q p).num *ℤ pos s.den)
    (ring (s.num ∷ (pos p.d) ∷ (pos q.d) ∷ []) (mul (var 0) (mul (mul (var 1) (var 2)) (mul (var 1) (var 2)))) (mul (var 0) (mul (mul (var 2) (var 1)) (mul (var 2) (var 1)))) refl)
    (ring (p.x ∷ p.y ∷ (pos p.d) ∷ q.x ∷ q.y ∷ (pos q.d) ∷ (pos s.den) ∷ []) (mul (sum (mul (dif (mul (var 0) (var 5)) (mul (var 3) (var 2))) (dif (mul (var 0) (var 5)) (mul (var 3) (var 2)))) (mul (dif (mul (var 1) (var 5)) (mul (var 4) (var 2))) (dif (mul (var 1) (var 5)) (mul (var 4) (var 2))))) (var 6)) (mul (sum (mul (dif (mul (var 3) (var 2)) (mul (var 0) (var 5))) (dif (mul (var 3) (var 2)) (mul (var 0) (var 5)))) (mul (dif (mul (var 4) (var 2)) (mul (var 1) (var 5))) (dif (mul (var 4) (var 2)) (mul (var 1) (var 5))))) (var 6)) refl)
    (le_from_test _ _ h))
  where
    moved : (a b c d : ℤ) → a ≡ b → c ≡ d → a ≤ℤ c → b ≤ℤ d
    moved a b c d e f h = omega (arith, ints)

from_first : (e f : Edge) (x : Coordinates) → f.a ≢ f.b → IsOnEdge e (grid_point x) → IsReached (IsOnEdge e) (IsOnEdge f) (square_to_edge f x)
from_first e f x g h =
    let r = reached_on_edge f x g in
    record {
      first = r.first;
      second = r.second;
      first_is_point = r.first_is_point;
      second_is_point = r.second_is_point;
      in_first = on_edge-same_point e r.first (grid_point x) r.first_is_point (record { positive = omega arith }) r.in_first h;
      in_second = r.in_second;
      reached = r.reached;
    }

from_second : (e f : Edge) (x : Coordinates) → e.a ≢ e.b → IsOnEdge f (grid_point x) → IsReached (IsOnEdge e) (IsOnEdge f) (square_to_edge e x)
from_second e f x d h =
    let r = reached_on_edge e x d in
    record {
      first = r.second;
      second = r.first;
      first_is_point = r.second_is_point;
      second_is_point = r.first_is_point;
      in_first = r.in_second;
      in_second = on_edge-same_point f r.first (grid_point x) r.first_is_point (record { positive = omega arith }) r.in_first h;
      reached = flipped r.first r.second (square_to_edge e x) r.reached;
    }

start_on : (e : Edge) → IsOnEdge e (grid_point e.a)
start_on e = on_edge-mean e (grid_point e.a) (pos 1) (pos 0) (mean_of_start e)

end_on : (e : Edge) → IsOnEdge e (grid_point e.b)
end_on e = on_edge-mean e (grid_point e.b) (pos 0) (pos 1) (mean_of_end e)

lesser_reached : (e f : Edge) (a b : Fraction) → IsReached (IsOnEdge e) (IsOnEdge f) a → IsReached (IsOnEdge e) (IsOnEdge f) b → IsReached (IsOnEdge e) (IsOnEdge f) (lesser a b)
lesser_reached e f a b h k = if_cases (λ s. IsReached (IsOnEdge e) (IsOnEdge f) s) (fraction_le a b) a b (λ t. h) (λ t. k)

pub ends_are_nearest : EndsAreNearest
ends_are_nearest e f d g none =
    record {
      is_number = number (square_of_ends e f) (lesser_square _ _ (lesser_square _ _ (is_square f e.a g) (is_square f e.b g)) (lesser_square _ _ (is_square e f.a d) (is_square e f.b d)));
      reached =
          lesser_reached e f _ _
          (lesser_reached e f _ _ (from_first e f e.a g (start_on e)) (from_first e f e.b g (end_on e)))
          (lesser_reached e f _ _ (from_second e f f.a d (start_on f)) (from_second e f f.b d (end_on f)));
      least = λ p q o i h j. least_between e f p q d g none o i h j;
    }

pub feet_are_nearest : FeetAreNearest
feet_are_nearest e x d =
    record {
      is_number = number (square_to_edge e x) (is_square e x d);
      reached = reached_on_edge e x d;
      least = λ p q o i h j. least_to_edge e x p q d i h j;
    }
