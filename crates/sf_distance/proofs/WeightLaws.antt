-- A grid point and the points of an edge, which are the means of its ends: no mean is nearer than what is computed.
use Rattle.std.proofs.Common.{◌≡◌, refl, subst, ap, sym, ◌∙◌, ℤ, pos, ◌+ℤ◌, ◌-ℤ◌, ◌*ℤ◌, ◌≤ℤ◌, ◌<ℤ◌, arith, [], ◌∷◌}
use Rattle.std.proofs.lemmas.Int.{ints}
use Rattle.sf_grid.proofs.Products.{mul_nonneg-nonneg, mul_pos-pos, nonneg_from_mul, square_nonneg, sum_nonneg}
use Rattle.sf_grid.proofs.Ring.{ring, var, num, sum, dif, mul}

pub from_difference : (a b c : ℤ) → b ≡ a +ℤ c → pos 0 ≤ℤ c → a ≤ℤ b
from_difference a b c e h = omega (arith, ints)

-- ---- the vector from a mean of 0 and k, with the weights m and n, to r, times the weights' sum
-- the square of the distance from the line
pub line_least : (rx ry kx ky m n : ℤ) →
    (((kx *ℤ ry -ℤ ky *ℤ rx) *ℤ (kx *ℤ ry -ℤ ky *ℤ rx)) *ℤ ((m +ℤ n) *ℤ (m +ℤ n)))
    ≤ℤ ((((m +ℤ n) *ℤ rx -ℤ n *ℤ kx) *ℤ ((m +ℤ n) *ℤ rx -ℤ n *ℤ kx) +ℤ ((m +ℤ n) *ℤ ry -ℤ n *ℤ ky) *ℤ ((m +ℤ n) *ℤ ry -ℤ n *ℤ ky))
    *ℤ (kx *ℤ kx +ℤ ky *ℤ ky))
line_least rx ry kx ky m n =
    from_difference _ _ _
    (ring (rx ∷ ry ∷ kx ∷ ky ∷ m ∷ n ∷ []) (mul (sum (mul (dif (mul (sum (var 4) (var 5)) (var 0)) (mul (var 5) (var 2))) (dif (mul (sum (var 4) (var 5)) (var 0)) (mul (var 5) (var 2)))) (mul (dif (mul (sum (var 4) (var 5)) (var 1)) (mul (var 5) (var 3))) (dif (mul (sum (var 4) (var 5)) (var 1)) (mul (var 5) (var 3))))) (sum (mul (var 2) (var 2)) (mul (var 3) (var 3)))) (sum (mul (mul (dif (mul (var 2) (var 1)) (mul (var 3) (var 0))) (dif (mul (var 2) (var 1)) (mul (var 3) (var 0)))) (mul (sum (var 4) (var 5)) (sum (var 4) (var 5)))) (mul (sum (mul (dif (mul (sum (var 4) (var 5)) (var 0)) (mul (var 5) (var 2))) (var 2)) (mul (dif (mul (sum (var 4) (var 5)) (var 1)) (mul (var 5) (var 3))) (var 3))) (sum (mul (dif (mul (sum (var 4) (var 5)) (var 0)) (mul (var 5) (var 2))) (var 2)) (mul (dif (mul (sum (var 4) (var 5)) (var 1)) (mul (var 5) (var 3))) (var 3))))) refl)
    (square_nonneg (((m +ℤ n) *ℤ rx -ℤ n *ℤ kx) *ℤ kx +ℤ ((m +ℤ n) *ℤ ry -ℤ n *ℤ ky) *ℤ ky))

-- where r lies behind the start, no mean is nearer than the start
pub start_least : (rx ry kx ky m n : ℤ) → pos 0 ≤ℤ m → pos 0 ≤ℤ n → (kx *ℤ rx +ℤ ky *ℤ ry) ≤ℤ pos 0 →
    ((rx *ℤ rx +ℤ ry *ℤ ry) *ℤ ((m +ℤ n) *ℤ (m +ℤ n)))
    ≤ℤ (((m +ℤ n) *ℤ rx -ℤ n *ℤ kx) *ℤ ((m +ℤ n) *ℤ rx -ℤ n *ℤ kx) +ℤ ((m +ℤ n) *ℤ ry -ℤ n *ℤ ky) *ℤ ((m +ℤ n) *ℤ ry -ℤ n *ℤ ky))
start_least rx ry kx ky m n hm hn h =
    from_difference _ _ _
    (ring (rx ∷ ry ∷ kx ∷ ky ∷ m ∷ n ∷ []) (sum (mul (dif (mul (sum (var 4) (var 5)) (var 0)) (mul (var 5) (var 2))) (dif (mul (sum (var 4) (var 5)) (var 0)) (mul (var 5) (var 2)))) (mul (dif (mul (sum (var 4) (var 5)) (var 1)) (mul (var 5) (var 3))) (dif (mul (sum (var 4) (var 5)) (var 1)) (mul (var 5) (var 3))))) (sum (mul (sum (mul (var 0) (var 0)) (mul (var 1) (var 1))) (mul (sum (var 4) (var 5)) (sum (var 4) (var 5)))) (sum (mul (num (pos 2)) (mul (mul (sum (var 4) (var 5)) (var 5)) (dif (num (pos 0)) (sum (mul (var 2) (var 0)) (mul (var 3) (var 1)))))) (sum (mul (mul (var 5) (var 2)) (mul (var 5) (var 2))) (mul (mul (var 5) (var 3)) (mul (var 5) (var 3)))))) refl)
    (sum_nonneg (pos 2 *ℤ ((m +ℤ n) *ℤ n *ℤ (pos 0 -ℤ (kx *ℤ rx +ℤ ky *ℤ ry)))) (n *ℤ kx *ℤ (n *ℤ kx) +ℤ n *ℤ ky *ℤ (n *ℤ ky))
    (mul_nonneg-nonneg (pos 2) ((m +ℤ n) *ℤ n *ℤ (pos 0 -ℤ (kx *ℤ rx +ℤ ky *ℤ ry))) (omega (arith, ints))
    (mul_nonneg-nonneg ((m +ℤ n) *ℤ n) (pos 0 -ℤ (kx *ℤ rx +ℤ ky *ℤ ry)) (mul_nonneg-nonneg (m +ℤ n) n (sum_nonneg m n hm hn) hn) (omega (arith, ints))))
    (sum_nonneg (n *ℤ kx *ℤ (n *ℤ kx)) (n *ℤ ky *ℤ (n *ℤ ky)) (square_nonneg (n *ℤ kx)) (square_nonneg (n *ℤ ky))))

-- where r lies beyond the end, no mean is nearer than the end
pub end_least : (rx ry kx ky m n : ℤ) → pos 0 ≤ℤ m → pos 0 ≤ℤ n → (kx *ℤ kx +ℤ ky *ℤ ky) ≤ℤ (kx *ℤ rx +ℤ ky *ℤ ry) →
    (((rx -ℤ kx) *ℤ (rx -ℤ kx) +ℤ (ry -ℤ ky) *ℤ (ry -ℤ ky)) *ℤ ((m +ℤ n) *ℤ (m +ℤ n)))
    ≤ℤ (((m +ℤ n) *ℤ rx -ℤ n *ℤ kx) *ℤ ((m +ℤ n) *ℤ rx -ℤ n *ℤ kx) +ℤ ((m +ℤ n) *ℤ ry -ℤ n *ℤ ky) *ℤ ((m +ℤ n) *ℤ ry -ℤ n *ℤ ky))
end_least rx ry kx ky m n hm hn h =
    from_difference _ _ _
    (ring (rx ∷ ry ∷ kx ∷ ky ∷ m ∷ n ∷ []) (sum (mul (dif (mul (sum (var 4) (var 5)) (var 0)) (mul (var 5) (var 2))) (dif (mul (sum (var 4) (var 5)) (var 0)) (mul (var 5) (var 2)))) (mul (dif (mul (sum (var 4) (var 5)) (var 1)) (mul (var 5) (var 3))) (dif (mul (sum (var 4) (var 5)) (var 1)) (mul (var 5) (var 3))))) (sum (mul (sum (mul (dif (var 0) (var 2)) (dif (var 0) (var 2))) (mul (dif (var 1) (var 3)) (dif (var 1) (var 3)))) (mul (sum (var 4) (var 5)) (sum (var 4) (var 5)))) (sum (mul (num (pos 2)) (mul (mul (sum (var 4) (var 5)) (var 4)) (dif (sum (mul (var 2) (var 0)) (mul (var 3) (var 1))) (sum (mul (var 2) (var 2)) (mul (var 3) (var 3)))))) (sum (mul (mul (var 4) (var 2)) (mul (var 4) (var 2))) (mul (mul (var 4) (var 3)) (mul (var 4) (var 3)))))) refl)
    (sum_nonneg (pos 2 *ℤ ((m +ℤ n) *ℤ m *ℤ ((kx *ℤ rx +ℤ ky *ℤ ry) -ℤ (kx *ℤ kx +ℤ ky *ℤ ky)))) (m *ℤ kx *ℤ (m *ℤ kx) +ℤ m *ℤ ky *ℤ (m *ℤ ky))
    (mul_nonneg-nonneg (pos 2) ((m +ℤ n) *ℤ m *ℤ ((kx *ℤ rx +ℤ ky *ℤ ry) -ℤ (kx *ℤ kx +ℤ ky *ℤ ky))) (omega (arith, ints))
    (mul_nonneg-nonneg ((m +ℤ n) *ℤ m) ((kx *ℤ rx +ℤ ky *ℤ ry) -ℤ (kx *ℤ kx +ℤ ky *ℤ ky)) (mul_nonneg-nonneg (m +ℤ n) m (sum_nonneg m n hm hn) hm) (omega (arith, ints))))
    (sum_nonneg (m *ℤ kx *ℤ (m *ℤ kx)) (m *ℤ ky *ℤ (m *ℤ ky)) (square_nonneg (m *ℤ kx)) (square_nonneg (m *ℤ ky))))

-- ---- a bound on a vector scales with it
pub scaled_least : (n c x y wx wy s t : ℤ) → pos 0 <ℤ s → s *ℤ x ≡ t *ℤ wx → s *ℤ y ≡ t *ℤ wy →
    (n *ℤ (s *ℤ s)) ≤ℤ ((wx *ℤ wx +ℤ wy *ℤ wy) *ℤ c) → (n *ℤ (t *ℤ t)) ≤ℤ ((x *ℤ x +ℤ y *ℤ y) *ℤ c)
scaled_least n c x y wx wy s t p e f h =
    let more : pos 0 ≤ℤ ((t *ℤ t) *ℤ ((wx *ℤ wx +ℤ wy *ℤ wy) *ℤ c -ℤ n *ℤ (s *ℤ s))) =
    mul_nonneg-nonneg (t *ℤ t) ((wx *ℤ wx +ℤ wy *ℤ wy) *ℤ c -ℤ n *ℤ (s *ℤ s)) (square_nonneg t) (omega (arith, ints)) in
    let is : (t *ℤ t) *ℤ ((wx *ℤ wx +ℤ wy *ℤ wy) *ℤ c -ℤ n *ℤ (s *ℤ s)) ≡ (s *ℤ s) *ℤ ((x *ℤ x +ℤ y *ℤ y) *ℤ c -ℤ n *ℤ (t *ℤ t)) =
    ring (n ∷ c ∷ wx ∷ wy ∷ s ∷ t ∷ []) (mul (mul (var 5) (var 5)) (dif (mul (sum (mul (var 2) (var 2)) (mul (var 3) (var 3))) (var 1)) (mul (var 0) (mul (var 4) (var 4))))) (dif (mul (sum (mul (mul (var 5) (var 2)) (mul (var 5) (var 2))) (mul (mul (var 5) (var 3)) (mul (var 5) (var 3)))) (var 1)) (mul (mul (var 0) (mul (var 4) (var 4))) (mul (var 5) (var 5)))) refl
    ∙ ap (λ z. (z *ℤ z +ℤ t *ℤ wy *ℤ (t *ℤ wy)) *ℤ c -ℤ n *ℤ (s *ℤ s) *ℤ (t *ℤ t)) (sym e)
    ∙ ap (λ z. (s *ℤ x *ℤ (s *ℤ x) +ℤ z *ℤ z) *ℤ c -ℤ n *ℤ (s *ℤ s) *ℤ (t *ℤ t)) (sym f)
    ∙ ring (n ∷ c ∷ x ∷ y ∷ s ∷ t ∷ []) (dif (mul (sum (mul (mul (var 4) (var 2)) (mul (var 4) (var 2))) (mul (mul (var 4) (var 3)) (mul (var 4) (var 3)))) (var 1)) (mul (mul (var 0) (mul (var 4) (var 4))) (mul (var 5) (var 5)))) (mul (mul (var 4) (var 4)) (dif (mul (sum (mul (var 2) (var 2)) (mul (var 3) (var 3))) (var 1)) (mul (var 0) (mul (var 5) (var 5))))) refl in
    let gap : pos 0 ≤ℤ ((x *ℤ x +ℤ y *ℤ y) *ℤ c -ℤ n *ℤ (t *ℤ t)) =
    nonneg_from_mul (s *ℤ s) ((x *ℤ x +ℤ y *ℤ y) *ℤ c -ℤ n *ℤ (t *ℤ t)) (mul_pos-pos s s p p) (subst (λ z. pos 0 ≤ℤ z) is more) in
    omega (arith, ints)
