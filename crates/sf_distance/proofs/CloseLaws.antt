-- Two edges that don't cross: from any two of their points one comes, no farther apart, to an end of the one and a point of the other.
-- u and v are the directions of the edges, r leads from the start of the second to that of the first, m, n and k, l are the weights of
-- a point of each. The points are moved towards where the lines meet, or along them where these are parallel, up to the first end.
use Rattle.std.proofs.Common.{◌≡◌, refl, subst, ap, sym, ◌∙◌, ℤ, pos, ◌+ℤ◌, ◌-ℤ◌, ◌*ℤ◌, ◌≤ℤ◌, ◌<ℤ◌, arith, [], ◌∷◌, ◌⊎◌, inl, inr}
use Rattle.std.proofs.lemmas.Int.{ints, by_lt_z}
use Rattle.sf_grid.proofs.Products.{mul_nonneg-nonneg, mul_pos-pos, square_nonneg, sum_nonneg}
use Rattle.sf_grid.proofs.Ring.{ring, var, num, sum, dif, mul}
use Rattle.sf_distance.proofs.WeightLaws.{from_difference}

-- from a point at o of a line through 0 with the direction g: a mean of 0 and g whose vector to o, times s, is no longer than w
pub record IsClose (ox oy gx gy s w : ℤ) : Type 0 where
  pub first : ℤ
  pub second : ℤ
  pub first_nonneg : pos 0 ≤ℤ first
  pub second_nonneg : pos 0 ≤ℤ second
  pub total : pos 0 <ℤ (first +ℤ second)
  pub close :
      ((((first +ℤ second) *ℤ ox -ℤ second *ℤ gx) *ℤ ((first +ℤ second) *ℤ ox -ℤ second *ℤ gx)
      +ℤ ((first +ℤ second) *ℤ oy -ℤ second *ℤ gy) *ℤ ((first +ℤ second) *ℤ oy -ℤ second *ℤ gy)) *ℤ (s *ℤ s))
      ≤ℤ (((first +ℤ second) *ℤ (first +ℤ second)) *ℤ w)

pub squares_le : (x y : ℤ) → pos 0 ≤ℤ x → x ≤ℤ y → (x *ℤ x) ≤ℤ (y *ℤ y)
squares_le x y h k =
    from_difference (x *ℤ x) (y *ℤ y) ((y -ℤ x) *ℤ (y +ℤ x)) (ring (x ∷ y ∷ []) (mul (var 1) (var 1)) (sum (mul (var 0) (var 0)) (mul (dif (var 1) (var 0)) (sum (var 1) (var 0)))) refl)
    (mul_nonneg-nonneg (y -ℤ x) (y +ℤ x) (omega (arith, ints)) (omega (arith, ints)))

-- the vector is the other one, times a
pub close_from : (ox oy gx gy s wx wy m n a : ℤ) → pos 0 ≤ℤ m → pos 0 ≤ℤ n → pos 0 <ℤ (m +ℤ n) →
    (m +ℤ n) *ℤ ox -ℤ n *ℤ gx ≡ a *ℤ wx → (m +ℤ n) *ℤ oy -ℤ n *ℤ gy ≡ a *ℤ wy →
    ((a *ℤ s) *ℤ (a *ℤ s)) ≤ℤ ((m +ℤ n) *ℤ (m +ℤ n)) → IsClose ox oy gx gy s (wx *ℤ wx +ℤ wy *ℤ wy)
close_from ox oy gx gy s wx wy m n a hm hn t e f h =
    record {
      first = m;
      second = n;
      first_nonneg = hm;
      second_nonneg = hn;
      total = t;
      close =
          let more : pos 0 ≤ℤ ((wx *ℤ wx +ℤ wy *ℤ wy) *ℤ ((m +ℤ n) *ℤ (m +ℤ n) -ℤ a *ℤ s *ℤ (a *ℤ s))) =
          mul_nonneg-nonneg (wx *ℤ wx +ℤ wy *ℤ wy) ((m +ℤ n) *ℤ (m +ℤ n) -ℤ a *ℤ s *ℤ (a *ℤ s))
          (sum_nonneg (wx *ℤ wx) (wy *ℤ wy) (square_nonneg wx) (square_nonneg wy)) (omega (arith, ints)) in
          rw (e, f)
          (from_difference _ _ ((wx *ℤ wx +ℤ wy *ℤ wy) *ℤ ((m +ℤ n) *ℤ (m +ℤ n) -ℤ a *ℤ s *ℤ (a *ℤ s)))
          (ring (m ∷ n ∷ a ∷ s ∷ wx ∷ wy ∷ []) (mul (mul (sum (var 0) (var 1)) (sum (var 0) (var 1))) (sum (mul (var 4) (var 4)) (mul (var 5) (var 5)))) (sum (mul (sum (mul (mul (var 2) (var 4)) (mul (var 2) (var 4))) (mul (mul (var 2) (var 5)) (mul (var 2) (var 5)))) (mul (var 3) (var 3))) (mul (sum (mul (var 4) (var 4)) (mul (var 5) (var 5))) (dif (mul (sum (var 0) (var 1)) (sum (var 0) (var 1))) (mul (mul (var 2) (var 3)) (mul (var 2) (var 3)))))) refl)
          more);
    }

-- ---- the exits, where the lines meet: A, B and C, E are the sides of the ends of the first edge along the second, and the other way
-- round; G = B - A = C - E, and G r = A u + C v
abbrev pub gap : ℤ → ℤ → ℤ → ℤ → ℤ → ℤ → ℤ → ℤ
gap r u v m n k l = (m +ℤ n) *ℤ (k +ℤ l) *ℤ r +ℤ (k +ℤ l) *ℤ n *ℤ u -ℤ (m +ℤ n) *ℤ l *ℤ v

-- P and Q: the sides of the two points, times their weights' sums
abbrev pub side_p : ℤ → ℤ → ℤ → ℤ → ℤ
side_p A G m n = (m +ℤ n) *ℤ A +ℤ n *ℤ G

abbrev pub side_q : ℤ → ℤ → ℤ → ℤ → ℤ
side_q C G k l = (k +ℤ l) *ℤ C -ℤ l *ℤ G

-- the weights where the first edge's start is reached
abbrev pub to_end : ℤ → ℤ → ℤ → ℤ → ℤ → ℤ → ℤ → ℤ
to_end A C G m n k l = C *ℤ side_p A G m n *ℤ (k +ℤ l) -ℤ A *ℤ (m +ℤ n) *ℤ side_q C G k l

abbrev pub to_start : ℤ → ℤ → ℤ → ℤ → ℤ → ℤ → ℤ → ℤ
to_start A C G m n k l = A *ℤ (m +ℤ n) *ℤ side_q C G k l -ℤ (C -ℤ G) *ℤ side_p A G m n *ℤ (k +ℤ l)

vector_1 : (r u v A C G m n k l : ℤ) → G *ℤ r ≡ A *ℤ u +ℤ C *ℤ v →
    (to_start A C G m n k l +ℤ to_end A C G m n k l) *ℤ r -ℤ to_end A C G m n k l *ℤ v ≡ (A *ℤ G) *ℤ gap r u v m n k l
vector_1 r u v A C G m n k l e =
    ring (r ∷ u ∷ v ∷ A ∷ C ∷ G ∷ m ∷ n ∷ k ∷ l ∷ []) (dif (mul (sum (dif (mul (mul (var 3) (sum (var 6) (var 7))) (dif (mul (sum (var 8) (var 9)) (var 4)) (mul (var 9) (var 5)))) (mul (mul (dif (var 4) (var 5)) (sum (mul (sum (var 6) (var 7)) (var 3)) (mul (var 7) (var 5)))) (sum (var 8) (var 9)))) (dif (mul (mul (var 4) (sum (mul (sum (var 6) (var 7)) (var 3)) (mul (var 7) (var 5)))) (sum (var 8) (var 9))) (mul (mul (var 3) (sum (var 6) (var 7))) (dif (mul (sum (var 8) (var 9)) (var 4)) (mul (var 9) (var 5)))))) (var 0)) (mul (dif (mul (mul (var 4) (sum (mul (sum (var 6) (var 7)) (var 3)) (mul (var 7) (var 5)))) (sum (var 8) (var 9))) (mul (mul (var 3) (sum (var 6) (var 7))) (dif (mul (sum (var 8) (var 9)) (var 4)) (mul (var 9) (var 5))))) (var 2))) (dif (mul (mul (sum (mul (sum (var 6) (var 7)) (var 3)) (mul (var 7) (var 5))) (sum (var 8) (var 9))) (mul (var 5) (var 0))) (mul (dif (mul (mul (var 4) (sum (mul (sum (var 6) (var 7)) (var 3)) (mul (var 7) (var 5)))) (sum (var 8) (var 9))) (mul (mul (var 3) (sum (var 6) (var 7))) (dif (mul (sum (var 8) (var 9)) (var 4)) (mul (var 9) (var 5))))) (var 2))) refl
    ∙ ap (λ z. side_p A G m n *ℤ (k +ℤ l) *ℤ z -ℤ to_end A C G m n k l *ℤ v) e
    ∙ ring (u ∷ v ∷ A ∷ C ∷ G ∷ m ∷ n ∷ k ∷ l ∷ []) (dif (mul (mul (sum (mul (sum (var 5) (var 6)) (var 2)) (mul (var 6) (var 4))) (sum (var 7) (var 8))) (sum (mul (var 2) (var 0)) (mul (var 3) (var 1)))) (mul (dif (mul (mul (var 3) (sum (mul (sum (var 5) (var 6)) (var 2)) (mul (var 6) (var 4)))) (sum (var 7) (var 8))) (mul (mul (var 2) (sum (var 5) (var 6))) (dif (mul (sum (var 7) (var 8)) (var 3)) (mul (var 8) (var 4))))) (var 1))) (mul (var 2) (sum (mul (mul (sum (var 5) (var 6)) (sum (var 7) (var 8))) (sum (mul (var 2) (var 0)) (mul (var 3) (var 1)))) (mul (var 4) (dif (mul (mul (sum (var 7) (var 8)) (var 6)) (var 0)) (mul (mul (sum (var 5) (var 6)) (var 8)) (var 1)))))) refl
    ∙ ap (λ z. A *ℤ ((m +ℤ n) *ℤ (k +ℤ l) *ℤ z +ℤ G *ℤ ((k +ℤ l) *ℤ n *ℤ u -ℤ (m +ℤ n) *ℤ l *ℤ v))) (sym e)
    ∙ ring (r ∷ u ∷ v ∷ A ∷ G ∷ m ∷ n ∷ k ∷ l ∷ []) (mul (var 3) (sum (mul (mul (sum (var 5) (var 6)) (sum (var 7) (var 8))) (mul (var 4) (var 0))) (mul (var 4) (dif (mul (mul (sum (var 7) (var 8)) (var 6)) (var 1)) (mul (mul (sum (var 5) (var 6)) (var 8)) (var 2)))))) (mul (mul (var 3) (var 4)) (dif (sum (mul (mul (sum (var 5) (var 6)) (sum (var 7) (var 8))) (var 0)) (mul (mul (sum (var 7) (var 8)) (var 6)) (var 1))) (mul (mul (sum (var 5) (var 6)) (var 8)) (var 2)))) refl

pub exit_1 : (rx ry ux uy vx vy A C G m n k l : ℤ) → pos 0 <ℤ A → pos 0 <ℤ G → pos 0 ≤ℤ m → pos 0 ≤ℤ n → pos 0 <ℤ (m +ℤ n) → pos 0 <ℤ (k +ℤ l) →
    G *ℤ rx ≡ A *ℤ ux +ℤ C *ℤ vx → G *ℤ ry ≡ A *ℤ uy +ℤ C *ℤ vy →
    pos 0 ≤ℤ to_start A C G m n k l → pos 0 ≤ℤ to_end A C G m n k l →
    IsClose rx ry vx vy ((m +ℤ n) *ℤ (k +ℤ l)) (gap rx ux vx m n k l *ℤ gap rx ux vx m n k l +ℤ gap ry uy vy m n k l *ℤ gap ry uy vy m n k l)
exit_1 rx ry ux uy vx vy A C G m n k l pA pG hm hn M K ex ey hs he =
    let totals : to_start A C G m n k l +ℤ to_end A C G m n k l ≡ A *ℤ G *ℤ ((m +ℤ n) *ℤ (k +ℤ l)) +ℤ G *ℤ G *ℤ (n *ℤ (k +ℤ l)) =
    ring (A ∷ C ∷ G ∷ m ∷ n ∷ k ∷ l ∷ []) (sum (dif (mul (mul (var 0) (sum (var 3) (var 4))) (dif (mul (sum (var 5) (var 6)) (var 1)) (mul (var 6) (var 2)))) (mul (mul (dif (var 1) (var 2)) (sum (mul (sum (var 3) (var 4)) (var 0)) (mul (var 4) (var 2)))) (sum (var 5) (var 6)))) (dif (mul (mul (var 1) (sum (mul (sum (var 3) (var 4)) (var 0)) (mul (var 4) (var 2)))) (sum (var 5) (var 6))) (mul (mul (var 0) (sum (var 3) (var 4))) (dif (mul (sum (var 5) (var 6)) (var 1)) (mul (var 6) (var 2)))))) (sum (mul (mul (var 0) (var 2)) (mul (sum (var 3) (var 4)) (sum (var 5) (var 6)))) (mul (mul (var 2) (var 2)) (mul (var 4) (sum (var 5) (var 6))))) refl in
    let own : pos 0 <ℤ (A *ℤ G *ℤ ((m +ℤ n) *ℤ (k +ℤ l))) =
    mul_pos-pos (A *ℤ G) ((m +ℤ n) *ℤ (k +ℤ l)) (mul_pos-pos A G pA pG) (mul_pos-pos (m +ℤ n) (k +ℤ l) M K) in
    let rest : pos 0 ≤ℤ (G *ℤ G *ℤ (n *ℤ (k +ℤ l))) =
    mul_nonneg-nonneg (G *ℤ G) (n *ℤ (k +ℤ l)) (square_nonneg G) (mul_nonneg-nonneg n (k +ℤ l) hn (omega (arith, ints))) in
    close_from rx ry vx vy ((m +ℤ n) *ℤ (k +ℤ l)) (gap rx ux vx m n k l) (gap ry uy vy m n k l) (to_start A C G m n k l) (to_end A C G m n k l) (A *ℤ G)
    hs he (omega (arith, ints)) (vector_1 rx ux vx A C G m n k l ex) (vector_1 ry uy vy A C G m n k l ey)
    (squares_le (A *ℤ G *ℤ ((m +ℤ n) *ℤ (k +ℤ l))) (to_start A C G m n k l +ℤ to_end A C G m n k l) (omega (arith, ints)) (omega (arith, ints)))

-- ---- the second edge's start is reached first: the weights are b and 0 - to_end
abbrev pub back_2 : ℤ → ℤ → ℤ → ℤ → ℤ → ℤ → ℤ → ℤ
back_2 A C G m n k l = (A +ℤ G) *ℤ (m +ℤ n) *ℤ (l *ℤ G) +ℤ G *ℤ (k +ℤ l) *ℤ (m *ℤ (pos 0 -ℤ C))

vector_2 : (r u v A C G m n k l : ℤ) → G *ℤ r ≡ A *ℤ u +ℤ C *ℤ v →
    (back_2 A C G m n k l +ℤ (pos 0 -ℤ to_end A C G m n k l)) *ℤ (pos 0 -ℤ r) -ℤ (pos 0 -ℤ to_end A C G m n k l) *ℤ u ≡ (C *ℤ G) *ℤ gap r u v m n k l
vector_2 r u v A C G m n k l e =
    ring (r ∷ u ∷ v ∷ A ∷ C ∷ G ∷ m ∷ n ∷ k ∷ l ∷ []) (dif (mul (sum (sum (mul (mul (sum (var 3) (var 5)) (sum (var 6) (var 7))) (mul (var 9) (var 5))) (mul (mul (var 5) (sum (var 8) (var 9))) (mul (var 6) (dif (num (pos 0)) (var 4))))) (dif (num (pos 0)) (dif (mul (mul (var 4) (sum (mul (sum (var 6) (var 7)) (var 3)) (mul (var 7) (var 5)))) (sum (var 8) (var 9))) (mul (mul (var 3) (sum (var 6) (var 7))) (dif (mul (sum (var 8) (var 9)) (var 4)) (mul (var 9) (var 5))))))) (dif (num (pos 0)) (var 0))) (mul (dif (num (pos 0)) (dif (mul (mul (var 4) (sum (mul (sum (var 6) (var 7)) (var 3)) (mul (var 7) (var 5)))) (sum (var 8) (var 9))) (mul (mul (var 3) (sum (var 6) (var 7))) (dif (mul (sum (var 8) (var 9)) (var 4)) (mul (var 9) (var 5)))))) (var 1))) (sum (mul (mul (sum (var 6) (var 7)) (dif (mul (sum (var 8) (var 9)) (var 4)) (mul (var 9) (var 5)))) (mul (var 5) (var 0))) (mul (dif (mul (mul (var 4) (sum (mul (sum (var 6) (var 7)) (var 3)) (mul (var 7) (var 5)))) (sum (var 8) (var 9))) (mul (mul (var 3) (sum (var 6) (var 7))) (dif (mul (sum (var 8) (var 9)) (var 4)) (mul (var 9) (var 5))))) (var 1))) refl
    ∙ ap (λ z. (m +ℤ n) *ℤ side_q C G k l *ℤ z +ℤ to_end A C G m n k l *ℤ u) e
    ∙ ring (u ∷ v ∷ A ∷ C ∷ G ∷ m ∷ n ∷ k ∷ l ∷ []) (sum (mul (mul (sum (var 5) (var 6)) (dif (mul (sum (var 7) (var 8)) (var 3)) (mul (var 8) (var 4)))) (sum (mul (var 2) (var 0)) (mul (var 3) (var 1)))) (mul (dif (mul (mul (var 3) (sum (mul (sum (var 5) (var 6)) (var 2)) (mul (var 6) (var 4)))) (sum (var 7) (var 8))) (mul (mul (var 2) (sum (var 5) (var 6))) (dif (mul (sum (var 7) (var 8)) (var 3)) (mul (var 8) (var 4))))) (var 0))) (mul (var 3) (sum (mul (mul (sum (var 5) (var 6)) (sum (var 7) (var 8))) (sum (mul (var 2) (var 0)) (mul (var 3) (var 1)))) (mul (var 4) (dif (mul (mul (sum (var 7) (var 8)) (var 6)) (var 0)) (mul (mul (sum (var 5) (var 6)) (var 8)) (var 1)))))) refl
    ∙ ap (λ z. C *ℤ ((m +ℤ n) *ℤ (k +ℤ l) *ℤ z +ℤ G *ℤ ((k +ℤ l) *ℤ n *ℤ u -ℤ (m +ℤ n) *ℤ l *ℤ v))) (sym e)
    ∙ ring (r ∷ u ∷ v ∷ C ∷ G ∷ m ∷ n ∷ k ∷ l ∷ []) (mul (var 3) (sum (mul (mul (sum (var 5) (var 6)) (sum (var 7) (var 8))) (mul (var 4) (var 0))) (mul (var 4) (dif (mul (mul (sum (var 7) (var 8)) (var 6)) (var 1)) (mul (mul (sum (var 5) (var 6)) (var 8)) (var 2)))))) (mul (mul (var 3) (var 4)) (dif (sum (mul (mul (sum (var 5) (var 6)) (sum (var 7) (var 8))) (var 0)) (mul (mul (sum (var 7) (var 8)) (var 6)) (var 1))) (mul (mul (sum (var 5) (var 6)) (var 8)) (var 2)))) refl

pub exit_2 : (rx ry ux uy vx vy A C G m n k l : ℤ) → pos 0 <ℤ A → pos 0 <ℤ G → pos 0 ≤ℤ m → pos 0 ≤ℤ n → pos 0 ≤ℤ l → pos 0 <ℤ (m +ℤ n) → pos 0 <ℤ (k +ℤ l) →
    G *ℤ rx ≡ A *ℤ ux +ℤ C *ℤ vx → G *ℤ ry ≡ A *ℤ uy +ℤ C *ℤ vy →
    to_end A C G m n k l <ℤ pos 0 →
    IsClose (pos 0 -ℤ rx) (pos 0 -ℤ ry) ux uy ((m +ℤ n) *ℤ (k +ℤ l)) (gap rx ux vx m n k l *ℤ gap rx ux vx m n k l +ℤ gap ry uy vy m n k l *ℤ gap ry uy vy m n k l)
exit_2 rx ry ux uy vx vy A C G m n k l pA pG hm hn hl M K ex ey h =
    let is : to_end A C G m n k l ≡ C *ℤ ((k +ℤ l) *ℤ (n *ℤ G)) +ℤ A *ℤ (m +ℤ n) *ℤ (l *ℤ G) =
    ring (A ∷ C ∷ G ∷ m ∷ n ∷ k ∷ l ∷ []) (dif (mul (mul (var 1) (sum (mul (sum (var 3) (var 4)) (var 0)) (mul (var 4) (var 2)))) (sum (var 5) (var 6))) (mul (mul (var 0) (sum (var 3) (var 4))) (dif (mul (sum (var 5) (var 6)) (var 1)) (mul (var 6) (var 2))))) (sum (mul (var 1) (mul (sum (var 5) (var 6)) (mul (var 4) (var 2)))) (mul (mul (var 0) (sum (var 3) (var 4))) (mul (var 6) (var 2)))) refl in
    let part : pos 0 ≤ℤ (A *ℤ (m +ℤ n) *ℤ (l *ℤ G)) =
    mul_nonneg-nonneg (A *ℤ (m +ℤ n)) (l *ℤ G) (mul_nonneg-nonneg A (m +ℤ n) (omega (arith, ints)) (omega (arith, ints))) (mul_nonneg-nonneg l G hl (omega (arith, ints))) in
    let other : pos 0 ≤ℤ ((k +ℤ l) *ℤ (n *ℤ G)) = mul_nonneg-nonneg (k +ℤ l) (n *ℤ G) (omega (arith, ints)) (mul_nonneg-nonneg n G hn (omega (arith, ints))) in
    let neg : C <ℤ pos 0 =
    by_lt_z C (pos 0) (λ l. l)
    (λ g. let j : pos 0 ≤ℤ (C *ℤ ((k +ℤ l) *ℤ (n *ℤ G))) = mul_nonneg-nonneg C ((k +ℤ l) *ℤ (n *ℤ G)) g other in absurd (omega (arith, ints))) in
    let away : pos 0 <ℤ (pos 0 -ℤ C) = omega (arith, ints) in
    let back : pos 0 ≤ℤ back_2 A C G m n k l =
    sum_nonneg ((A +ℤ G) *ℤ (m +ℤ n) *ℤ (l *ℤ G)) (G *ℤ (k +ℤ l) *ℤ (m *ℤ (pos 0 -ℤ C)))
    (mul_nonneg-nonneg ((A +ℤ G) *ℤ (m +ℤ n)) (l *ℤ G) (mul_nonneg-nonneg (A +ℤ G) (m +ℤ n) (omega (arith, ints)) (omega (arith, ints))) (mul_nonneg-nonneg l G hl (omega (arith, ints))))
    (mul_nonneg-nonneg (G *ℤ (k +ℤ l)) (m *ℤ (pos 0 -ℤ C)) (mul_nonneg-nonneg G (k +ℤ l) (omega (arith, ints)) (omega (arith, ints))) (mul_nonneg-nonneg m (pos 0 -ℤ C) hm (omega (arith, ints)))) in
    let totals : back_2 A C G m n k l +ℤ (pos 0 -ℤ to_end A C G m n k l) ≡ (pos 0 -ℤ C) *ℤ G *ℤ ((m +ℤ n) *ℤ (k +ℤ l)) +ℤ G *ℤ G *ℤ ((m +ℤ n) *ℤ l) =
    ring (A ∷ C ∷ G ∷ m ∷ n ∷ k ∷ l ∷ []) (sum (sum (mul (mul (sum (var 0) (var 2)) (sum (var 3) (var 4))) (mul (var 6) (var 2))) (mul (mul (var 2) (sum (var 5) (var 6))) (mul (var 3) (dif (num (pos 0)) (var 1))))) (dif (num (pos 0)) (dif (mul (mul (var 1) (sum (mul (sum (var 3) (var 4)) (var 0)) (mul (var 4) (var 2)))) (sum (var 5) (var 6))) (mul (mul (var 0) (sum (var 3) (var 4))) (dif (mul (sum (var 5) (var 6)) (var 1)) (mul (var 6) (var 2))))))) (sum (mul (mul (dif (num (pos 0)) (var 1)) (var 2)) (mul (sum (var 3) (var 4)) (sum (var 5) (var 6)))) (mul (mul (var 2) (var 2)) (mul (sum (var 3) (var 4)) (var 6)))) refl in
    let own : pos 0 <ℤ ((pos 0 -ℤ C) *ℤ G *ℤ ((m +ℤ n) *ℤ (k +ℤ l))) =
    mul_pos-pos ((pos 0 -ℤ C) *ℤ G) ((m +ℤ n) *ℤ (k +ℤ l)) (mul_pos-pos (pos 0 -ℤ C) G away pG) (mul_pos-pos (m +ℤ n) (k +ℤ l) M K) in
    let rest : pos 0 ≤ℤ (G *ℤ G *ℤ ((m +ℤ n) *ℤ l)) =
    mul_nonneg-nonneg (G *ℤ G) ((m +ℤ n) *ℤ l) (square_nonneg G) (mul_nonneg-nonneg (m +ℤ n) l (omega (arith, ints)) hl) in
    let bound = squares_le ((pos 0 -ℤ C) *ℤ G *ℤ ((m +ℤ n) *ℤ (k +ℤ l))) (back_2 A C G m n k l +ℤ (pos 0 -ℤ to_end A C G m n k l)) (omega (arith, ints)) (omega (arith, ints)) in
    let same : ((C *ℤ G) *ℤ ((m +ℤ n) *ℤ (k +ℤ l))) *ℤ ((C *ℤ G) *ℤ ((m +ℤ n) *ℤ (k +ℤ l))) ≡ ((pos 0 -ℤ C) *ℤ G *ℤ ((m +ℤ n) *ℤ (k +ℤ l))) *ℤ ((pos 0 -ℤ C) *ℤ G *ℤ ((m +ℤ n) *ℤ (k +ℤ l))) =
    ring (C ∷ G ∷ ((m +ℤ n) *ℤ (k +ℤ l)) ∷ []) (mul (mul (mul (var 0) (var 1)) (var 2)) (mul (mul (var 0) (var 1)) (var 2))) (mul (mul (mul (dif (num (pos 0)) (var 0)) (var 1)) (var 2)) (mul (mul (dif (num (pos 0)) (var 0)) (var 1)) (var 2))) refl in
    close_from (pos 0 -ℤ rx) (pos 0 -ℤ ry) ux uy ((m +ℤ n) *ℤ (k +ℤ l)) (gap rx ux vx m n k l) (gap ry uy vy m n k l) (back_2 A C G m n k l) (pos 0 -ℤ to_end A C G m n k l) (C *ℤ G)
    back (omega (arith, ints)) (omega (arith, ints)) (vector_2 rx ux vx A C G m n k l ex) (vector_2 ry uy vy A C G m n k l ey)
    (subst (λ z. z ≤ℤ ((back_2 A C G m n k l +ℤ (pos 0 -ℤ to_end A C G m n k l)) *ℤ (back_2 A C G m n k l +ℤ (pos 0 -ℤ to_end A C G m n k l)))) (sym same) bound)

-- ---- the second edge's end is reached first
abbrev pub back_3 : ℤ → ℤ → ℤ → ℤ → ℤ → ℤ → ℤ → ℤ
back_3 A C G m n k l = (A +ℤ G) *ℤ (m +ℤ n) *ℤ (k *ℤ G) +ℤ G *ℤ (k +ℤ l) *ℤ (m *ℤ (C -ℤ G))

vector_3 : (r u v A C G m n k l : ℤ) → G *ℤ r ≡ A *ℤ u +ℤ C *ℤ v →
    (back_3 A C G m n k l +ℤ (pos 0 -ℤ to_start A C G m n k l)) *ℤ (v -ℤ r) -ℤ (pos 0 -ℤ to_start A C G m n k l) *ℤ u ≡ ((G -ℤ C) *ℤ G) *ℤ gap r u v m n k l
vector_3 r u v A C G m n k l e =
    ring (r ∷ u ∷ v ∷ A ∷ C ∷ G ∷ m ∷ n ∷ k ∷ l ∷ []) (dif (mul (sum (sum (mul (mul (sum (var 3) (var 5)) (sum (var 6) (var 7))) (mul (var 8) (var 5))) (mul (mul (var 5) (sum (var 8) (var 9))) (mul (var 6) (dif (var 4) (var 5))))) (dif (num (pos 0)) (dif (mul (mul (var 3) (sum (var 6) (var 7))) (dif (mul (sum (var 8) (var 9)) (var 4)) (mul (var 9) (var 5)))) (mul (mul (dif (var 4) (var 5)) (sum (mul (sum (var 6) (var 7)) (var 3)) (mul (var 7) (var 5)))) (sum (var 8) (var 9)))))) (dif (var 2) (var 0))) (mul (dif (num (pos 0)) (dif (mul (mul (var 3) (sum (var 6) (var 7))) (dif (mul (sum (var 8) (var 9)) (var 4)) (mul (var 9) (var 5)))) (mul (mul (dif (var 4) (var 5)) (sum (mul (sum (var 6) (var 7)) (var 3)) (mul (var 7) (var 5)))) (sum (var 8) (var 9))))) (var 1))) (sum (mul (mul (sum (var 6) (var 7)) (dif (mul (sum (var 8) (var 9)) (var 4)) (mul (var 9) (var 5)))) (dif (mul (var 5) (var 2)) (mul (var 5) (var 0)))) (mul (dif (mul (mul (var 3) (sum (var 6) (var 7))) (dif (mul (sum (var 8) (var 9)) (var 4)) (mul (var 9) (var 5)))) (mul (mul (dif (var 4) (var 5)) (sum (mul (sum (var 6) (var 7)) (var 3)) (mul (var 7) (var 5)))) (sum (var 8) (var 9)))) (var 1))) refl
    ∙ ap (λ z. (m +ℤ n) *ℤ side_q C G k l *ℤ (G *ℤ v -ℤ z) +ℤ to_start A C G m n k l *ℤ u) e
    ∙ ring (u ∷ v ∷ A ∷ C ∷ G ∷ m ∷ n ∷ k ∷ l ∷ []) (sum (mul (mul (sum (var 5) (var 6)) (dif (mul (sum (var 7) (var 8)) (var 3)) (mul (var 8) (var 4)))) (dif (mul (var 4) (var 1)) (sum (mul (var 2) (var 0)) (mul (var 3) (var 1))))) (mul (dif (mul (mul (var 2) (sum (var 5) (var 6))) (dif (mul (sum (var 7) (var 8)) (var 3)) (mul (var 8) (var 4)))) (mul (mul (dif (var 3) (var 4)) (sum (mul (sum (var 5) (var 6)) (var 2)) (mul (var 6) (var 4)))) (sum (var 7) (var 8)))) (var 0))) (mul (dif (var 4) (var 3)) (sum (mul (mul (sum (var 5) (var 6)) (sum (var 7) (var 8))) (sum (mul (var 2) (var 0)) (mul (var 3) (var 1)))) (mul (var 4) (dif (mul (mul (sum (var 7) (var 8)) (var 6)) (var 0)) (mul (mul (sum (var 5) (var 6)) (var 8)) (var 1)))))) refl
    ∙ ap (λ z. (G -ℤ C) *ℤ ((m +ℤ n) *ℤ (k +ℤ l) *ℤ z +ℤ G *ℤ ((k +ℤ l) *ℤ n *ℤ u -ℤ (m +ℤ n) *ℤ l *ℤ v))) (sym e)
    ∙ ring (r ∷ u ∷ v ∷ C ∷ G ∷ m ∷ n ∷ k ∷ l ∷ []) (mul (dif (var 4) (var 3)) (sum (mul (mul (sum (var 5) (var 6)) (sum (var 7) (var 8))) (mul (var 4) (var 0))) (mul (var 4) (dif (mul (mul (sum (var 7) (var 8)) (var 6)) (var 1)) (mul (mul (sum (var 5) (var 6)) (var 8)) (var 2)))))) (mul (mul (dif (var 4) (var 3)) (var 4)) (dif (sum (mul (mul (sum (var 5) (var 6)) (sum (var 7) (var 8))) (var 0)) (mul (mul (sum (var 7) (var 8)) (var 6)) (var 1))) (mul (mul (sum (var 5) (var 6)) (var 8)) (var 2)))) refl

pub exit_3 : (rx ry ux uy vx vy A C G m n k l : ℤ) → pos 0 <ℤ A → pos 0 <ℤ G → pos 0 ≤ℤ m → pos 0 ≤ℤ n → pos 0 ≤ℤ k → pos 0 <ℤ (m +ℤ n) → pos 0 <ℤ (k +ℤ l) →
    G *ℤ rx ≡ A *ℤ ux +ℤ C *ℤ vx → G *ℤ ry ≡ A *ℤ uy +ℤ C *ℤ vy →
    to_start A C G m n k l <ℤ pos 0 →
    IsClose (vx -ℤ rx) (vy -ℤ ry) ux uy ((m +ℤ n) *ℤ (k +ℤ l)) (gap rx ux vx m n k l *ℤ gap rx ux vx m n k l +ℤ gap ry uy vy m n k l *ℤ gap ry uy vy m n k l)
exit_3 rx ry ux uy vx vy A C G m n k l pA pG hm hn hk M K ex ey h =
    let is : to_start A C G m n k l ≡ A *ℤ (m +ℤ n) *ℤ (k *ℤ G) -ℤ (C -ℤ G) *ℤ ((k +ℤ l) *ℤ (n *ℤ G)) =
    ring (A ∷ C ∷ G ∷ m ∷ n ∷ k ∷ l ∷ []) (dif (mul (mul (var 0) (sum (var 3) (var 4))) (dif (mul (sum (var 5) (var 6)) (var 1)) (mul (var 6) (var 2)))) (mul (mul (dif (var 1) (var 2)) (sum (mul (sum (var 3) (var 4)) (var 0)) (mul (var 4) (var 2)))) (sum (var 5) (var 6)))) (dif (mul (mul (var 0) (sum (var 3) (var 4))) (mul (var 5) (var 2))) (mul (dif (var 1) (var 2)) (mul (sum (var 5) (var 6)) (mul (var 4) (var 2))))) refl in
    let part : pos 0 ≤ℤ (A *ℤ (m +ℤ n) *ℤ (k *ℤ G)) =
    mul_nonneg-nonneg (A *ℤ (m +ℤ n)) (k *ℤ G) (mul_nonneg-nonneg A (m +ℤ n) (omega (arith, ints)) (omega (arith, ints))) (mul_nonneg-nonneg k G hk (omega (arith, ints))) in
    let other : pos 0 ≤ℤ ((k +ℤ l) *ℤ (n *ℤ G)) = mul_nonneg-nonneg (k +ℤ l) (n *ℤ G) (omega (arith, ints)) (mul_nonneg-nonneg n G hn (omega (arith, ints))) in
    let away : pos 0 <ℤ (C -ℤ G) =
    by_lt_z (pos 0) (C -ℤ G) (λ l. l)
    (λ g. let j : pos 0 ≤ℤ ((pos 0 -ℤ (C -ℤ G)) *ℤ ((k +ℤ l) *ℤ (n *ℤ G))) = mul_nonneg-nonneg (pos 0 -ℤ (C -ℤ G)) ((k +ℤ l) *ℤ (n *ℤ G)) (omega (arith, ints)) other in
    let i : (pos 0 -ℤ (C -ℤ G)) *ℤ ((k +ℤ l) *ℤ (n *ℤ G)) ≡ pos 0 -ℤ (C -ℤ G) *ℤ ((k +ℤ l) *ℤ (n *ℤ G)) = ring ((C -ℤ G) ∷ ((k +ℤ l) *ℤ (n *ℤ G)) ∷ []) (mul (dif (num (pos 0)) (var 0)) (var 1)) (dif (num (pos 0)) (mul (var 0) (var 1))) refl in
    absurd (omega (arith, ints))) in
    let back : pos 0 ≤ℤ back_3 A C G m n k l =
    sum_nonneg ((A +ℤ G) *ℤ (m +ℤ n) *ℤ (k *ℤ G)) (G *ℤ (k +ℤ l) *ℤ (m *ℤ (C -ℤ G)))
    (mul_nonneg-nonneg ((A +ℤ G) *ℤ (m +ℤ n)) (k *ℤ G) (mul_nonneg-nonneg (A +ℤ G) (m +ℤ n) (omega (arith, ints)) (omega (arith, ints))) (mul_nonneg-nonneg k G hk (omega (arith, ints))))
    (mul_nonneg-nonneg (G *ℤ (k +ℤ l)) (m *ℤ (C -ℤ G)) (mul_nonneg-nonneg G (k +ℤ l) (omega (arith, ints)) (omega (arith, ints))) (mul_nonneg-nonneg m (C -ℤ G) hm (omega (arith, ints)))) in
    let totals : back_3 A C G m n k l +ℤ (pos 0 -ℤ to_start A C G m n k l) ≡ (C -ℤ G) *ℤ G *ℤ ((m +ℤ n) *ℤ (k +ℤ l)) +ℤ G *ℤ G *ℤ ((m +ℤ n) *ℤ k) =
    ring (A ∷ C ∷ G ∷ m ∷ n ∷ k ∷ l ∷ []) (sum (sum (mul (mul (sum (var 0) (var 2)) (sum (var 3) (var 4))) (mul (var 5) (var 2))) (mul (mul (var 2) (sum (var 5) (var 6))) (mul (var 3) (dif (var 1) (var 2))))) (dif (num (pos 0)) (dif (mul (mul (var 0) (sum (var 3) (var 4))) (dif (mul (sum (var 5) (var 6)) (var 1)) (mul (var 6) (var 2)))) (mul (mul (dif (var 1) (var 2)) (sum (mul (sum (var 3) (var 4)) (var 0)) (mul (var 4) (var 2)))) (sum (var 5) (var 6)))))) (sum (mul (mul (dif (var 1) (var 2)) (var 2)) (mul (sum (var 3) (var 4)) (sum (var 5) (var 6)))) (mul (mul (var 2) (var 2)) (mul (sum (var 3) (var 4)) (var 5)))) refl in
    let own : pos 0 <ℤ ((C -ℤ G) *ℤ G *ℤ ((m +ℤ n) *ℤ (k +ℤ l))) =
    mul_pos-pos ((C -ℤ G) *ℤ G) ((m +ℤ n) *ℤ (k +ℤ l)) (mul_pos-pos (C -ℤ G) G away pG) (mul_pos-pos (m +ℤ n) (k +ℤ l) M K) in
    let rest : pos 0 ≤ℤ (G *ℤ G *ℤ ((m +ℤ n) *ℤ k)) =
    mul_nonneg-nonneg (G *ℤ G) ((m +ℤ n) *ℤ k) (square_nonneg G) (mul_nonneg-nonneg (m +ℤ n) k (omega (arith, ints)) hk) in
    let bound = squares_le ((C -ℤ G) *ℤ G *ℤ ((m +ℤ n) *ℤ (k +ℤ l))) (back_3 A C G m n k l +ℤ (pos 0 -ℤ to_start A C G m n k l)) (omega (arith, ints)) (omega (arith, ints)) in
    let same : (((G -ℤ C) *ℤ G) *ℤ ((m +ℤ n) *ℤ (k +ℤ l))) *ℤ (((G -ℤ C) *ℤ G) *ℤ ((m +ℤ n) *ℤ (k +ℤ l))) ≡ ((C -ℤ G) *ℤ G *ℤ ((m +ℤ n) *ℤ (k +ℤ l))) *ℤ ((C -ℤ G) *ℤ G *ℤ ((m +ℤ n) *ℤ (k +ℤ l))) =
    ring (C ∷ G ∷ ((m +ℤ n) *ℤ (k +ℤ l)) ∷ []) (mul (mul (mul (dif (var 1) (var 0)) (var 1)) (var 2)) (mul (mul (dif (var 1) (var 0)) (var 1)) (var 2))) (mul (mul (mul (dif (var 0) (var 1)) (var 1)) (var 2)) (mul (mul (dif (var 0) (var 1)) (var 1)) (var 2))) refl in
    close_from (vx -ℤ rx) (vy -ℤ ry) ux uy ((m +ℤ n) *ℤ (k +ℤ l)) (gap rx ux vx m n k l) (gap ry uy vy m n k l) (back_3 A C G m n k l) (pos 0 -ℤ to_start A C G m n k l) ((G -ℤ C) *ℤ G)
    back (omega (arith, ints)) (omega (arith, ints)) (vector_3 rx ux vx A C G m n k l ex) (vector_3 ry uy vy A C G m n k l ey)
    (subst (λ z. z ≤ℤ ((back_3 A C G m n k l +ℤ (pos 0 -ℤ to_start A C G m n k l)) *ℤ (back_3 A C G m n k l +ℤ (pos 0 -ℤ to_start A C G m n k l)))) (sym same) bound)

-- ---- one of the three comes first
pub first_exit : (rx ry ux uy vx vy A C G m n k l : ℤ) → pos 0 <ℤ A → pos 0 <ℤ G → pos 0 ≤ℤ m → pos 0 ≤ℤ n → pos 0 ≤ℤ k → pos 0 ≤ℤ l → pos 0 <ℤ (m +ℤ n) → pos 0 <ℤ (k +ℤ l) →
    G *ℤ rx ≡ A *ℤ ux +ℤ C *ℤ vx → G *ℤ ry ≡ A *ℤ uy +ℤ C *ℤ vy →
    IsClose rx ry vx vy ((m +ℤ n) *ℤ (k +ℤ l)) (gap rx ux vx m n k l *ℤ gap rx ux vx m n k l +ℤ gap ry uy vy m n k l *ℤ gap ry uy vy m n k l)
    ⊎ (IsClose (pos 0 -ℤ rx) (pos 0 -ℤ ry) ux uy ((m +ℤ n) *ℤ (k +ℤ l)) (gap rx ux vx m n k l *ℤ gap rx ux vx m n k l +ℤ gap ry uy vy m n k l *ℤ gap ry uy vy m n k l)
    ⊎ IsClose (vx -ℤ rx) (vy -ℤ ry) ux uy ((m +ℤ n) *ℤ (k +ℤ l)) (gap rx ux vx m n k l *ℤ gap rx ux vx m n k l +ℤ gap ry uy vy m n k l *ℤ gap ry uy vy m n k l))
first_exit rx ry ux uy vx vy A C G m n k l pA pG hm hn hk hl M K ex ey =
    by_lt_z (to_end A C G m n k l) (pos 0)
    (λ h. inr (inl (exit_2 rx ry ux uy vx vy A C G m n k l pA pG hm hn hl M K ex ey h)))
    (λ he. by_lt_z (to_start A C G m n k l) (pos 0)
    (λ h. inr (inr (exit_3 rx ry ux uy vx vy A C G m n k l pA pG hm hn hk M K ex ey h)))
    (λ hs. inl (exit_1 rx ry ux uy vx vy A C G m n k l pA pG hm hn M K ex ey hs he)))

-- ---- parallel edges that run the same way: L u = H v, where L is the square of v, and H the product of u and v
slide_1 : (r u v L H m n k l : ℤ) → L *ℤ u ≡ H *ℤ v →
    (((m +ℤ n) *ℤ (k *ℤ L) +ℤ n *ℤ ((k +ℤ l) *ℤ H)) +ℤ ((m +ℤ n) *ℤ (l *ℤ L) -ℤ n *ℤ ((k +ℤ l) *ℤ H))) *ℤ r -ℤ ((m +ℤ n) *ℤ (l *ℤ L) -ℤ n *ℤ ((k +ℤ l) *ℤ H)) *ℤ v
    ≡ L *ℤ gap r u v m n k l
slide_1 r u v L H m n k l e =
    ring (r ∷ u ∷ v ∷ L ∷ H ∷ m ∷ n ∷ k ∷ l ∷ []) (dif (mul (sum (sum (mul (sum (var 5) (var 6)) (mul (var 7) (var 3))) (mul (var 6) (mul (sum (var 7) (var 8)) (var 4)))) (dif (mul (sum (var 5) (var 6)) (mul (var 8) (var 3))) (mul (var 6) (mul (sum (var 7) (var 8)) (var 4))))) (var 0)) (mul (dif (mul (sum (var 5) (var 6)) (mul (var 8) (var 3))) (mul (var 6) (mul (sum (var 7) (var 8)) (var 4)))) (var 2))) (sum (mul (var 3) (dif (mul (mul (sum (var 5) (var 6)) (sum (var 7) (var 8))) (var 0)) (mul (mul (sum (var 5) (var 6)) (var 8)) (var 2)))) (mul (mul (sum (var 7) (var 8)) (var 6)) (mul (var 4) (var 2)))) refl
    ∙ ap (λ z. L *ℤ ((m +ℤ n) *ℤ (k +ℤ l) *ℤ r -ℤ (m +ℤ n) *ℤ l *ℤ v) +ℤ (k +ℤ l) *ℤ n *ℤ z) (sym e)
    ∙ ring (r ∷ u ∷ v ∷ L ∷ m ∷ n ∷ k ∷ l ∷ []) (sum (mul (var 3) (dif (mul (mul (sum (var 4) (var 5)) (sum (var 6) (var 7))) (var 0)) (mul (mul (sum (var 4) (var 5)) (var 7)) (var 2)))) (mul (mul (sum (var 6) (var 7)) (var 5)) (mul (var 3) (var 1)))) (mul (var 3) (dif (sum (mul (mul (sum (var 4) (var 5)) (sum (var 6) (var 7))) (var 0)) (mul (mul (sum (var 6) (var 7)) (var 5)) (var 1))) (mul (mul (sum (var 4) (var 5)) (var 7)) (var 2)))) refl

slide_2 : (r u v L H m n k l : ℤ) → L *ℤ u ≡ H *ℤ v →
    ((m *ℤ ((k +ℤ l) *ℤ H) +ℤ (m +ℤ n) *ℤ (l *ℤ L)) +ℤ (n *ℤ ((k +ℤ l) *ℤ H) -ℤ (m +ℤ n) *ℤ (l *ℤ L))) *ℤ (pos 0 -ℤ r) -ℤ (n *ℤ ((k +ℤ l) *ℤ H) -ℤ (m +ℤ n) *ℤ (l *ℤ L)) *ℤ u
    ≡ (pos 0 -ℤ H) *ℤ gap r u v m n k l
slide_2 r u v L H m n k l e =
    ring (r ∷ u ∷ L ∷ H ∷ m ∷ n ∷ k ∷ l ∷ []) (dif (mul (sum (sum (mul (var 4) (mul (sum (var 6) (var 7)) (var 3))) (mul (sum (var 4) (var 5)) (mul (var 7) (var 2)))) (dif (mul (var 5) (mul (sum (var 6) (var 7)) (var 3))) (mul (sum (var 4) (var 5)) (mul (var 7) (var 2))))) (dif (num (pos 0)) (var 0))) (mul (dif (mul (var 5) (mul (sum (var 6) (var 7)) (var 3))) (mul (sum (var 4) (var 5)) (mul (var 7) (var 2)))) (var 1))) (sum (mul (dif (num (pos 0)) (var 3)) (sum (mul (mul (sum (var 4) (var 5)) (sum (var 6) (var 7))) (var 0)) (mul (mul (sum (var 6) (var 7)) (var 5)) (var 1)))) (mul (mul (sum (var 4) (var 5)) (var 7)) (mul (var 2) (var 1)))) refl
    ∙ ap (λ z. (pos 0 -ℤ H) *ℤ ((m +ℤ n) *ℤ (k +ℤ l) *ℤ r +ℤ (k +ℤ l) *ℤ n *ℤ u) +ℤ (m +ℤ n) *ℤ l *ℤ z) e
    ∙ ring (r ∷ u ∷ v ∷ H ∷ m ∷ n ∷ k ∷ l ∷ []) (sum (mul (dif (num (pos 0)) (var 3)) (sum (mul (mul (sum (var 4) (var 5)) (sum (var 6) (var 7))) (var 0)) (mul (mul (sum (var 6) (var 7)) (var 5)) (var 1)))) (mul (mul (sum (var 4) (var 5)) (var 7)) (mul (var 3) (var 2)))) (mul (dif (num (pos 0)) (var 3)) (dif (sum (mul (mul (sum (var 4) (var 5)) (sum (var 6) (var 7))) (var 0)) (mul (mul (sum (var 6) (var 7)) (var 5)) (var 1))) (mul (mul (sum (var 4) (var 5)) (var 7)) (var 2)))) refl

pub slides : (rx ry ux uy vx vy L H m n k l : ℤ) → pos 0 <ℤ L → pos 0 ≤ℤ H → pos 0 ≤ℤ m → pos 0 ≤ℤ n → pos 0 ≤ℤ k → pos 0 ≤ℤ l → pos 0 <ℤ (m +ℤ n) → pos 0 <ℤ (k +ℤ l) →
    L *ℤ ux ≡ H *ℤ vx → L *ℤ uy ≡ H *ℤ vy →
    IsClose rx ry vx vy ((m +ℤ n) *ℤ (k +ℤ l)) (gap rx ux vx m n k l *ℤ gap rx ux vx m n k l +ℤ gap ry uy vy m n k l *ℤ gap ry uy vy m n k l)
    ⊎ IsClose (pos 0 -ℤ rx) (pos 0 -ℤ ry) ux uy ((m +ℤ n) *ℤ (k +ℤ l)) (gap rx ux vx m n k l *ℤ gap rx ux vx m n k l +ℤ gap ry uy vy m n k l *ℤ gap ry uy vy m n k l)
slides rx ry ux uy vx vy L H m n k l pL hH hm hn hk hl M K ex ey =
    let nKH : pos 0 ≤ℤ (n *ℤ ((k +ℤ l) *ℤ H)) = mul_nonneg-nonneg n ((k +ℤ l) *ℤ H) hn (mul_nonneg-nonneg (k +ℤ l) H (omega (arith, ints)) hH) in
    let mKH : pos 0 ≤ℤ (m *ℤ ((k +ℤ l) *ℤ H)) = mul_nonneg-nonneg m ((k +ℤ l) *ℤ H) hm (mul_nonneg-nonneg (k +ℤ l) H (omega (arith, ints)) hH) in
    let MkL : pos 0 ≤ℤ ((m +ℤ n) *ℤ (k *ℤ L)) = mul_nonneg-nonneg (m +ℤ n) (k *ℤ L) (omega (arith, ints)) (mul_nonneg-nonneg k L hk (omega (arith, ints))) in
    let MlL : pos 0 ≤ℤ ((m +ℤ n) *ℤ (l *ℤ L)) = mul_nonneg-nonneg (m +ℤ n) (l *ℤ L) (omega (arith, ints)) (mul_nonneg-nonneg l L hl (omega (arith, ints))) in
    by_lt_z ((m +ℤ n) *ℤ (l *ℤ L)) (n *ℤ ((k +ℤ l) *ℤ H))
    (λ h.
    let pH : pos 0 <ℤ H = by_lt_z (pos 0) H (λ j. j) (λ j. let z : H ≡ pos 0 = omega (arith, ints) in let y : n *ℤ ((k +ℤ l) *ℤ H) ≡ pos 0 = ap (λ t. n *ℤ ((k +ℤ l) *ℤ t)) z ∙ ring (n ∷ k ∷ l ∷ []) (mul (var 0) (mul (sum (var 1) (var 2)) (num (pos 0)))) (num (pos 0)) refl in absurd (omega (arith, ints))) in
    let own : pos 0 <ℤ (H *ℤ ((m +ℤ n) *ℤ (k +ℤ l))) = mul_pos-pos H ((m +ℤ n) *ℤ (k +ℤ l)) pH (mul_pos-pos (m +ℤ n) (k +ℤ l) M K) in
    let totals : (m *ℤ ((k +ℤ l) *ℤ H) +ℤ (m +ℤ n) *ℤ (l *ℤ L)) +ℤ (n *ℤ ((k +ℤ l) *ℤ H) -ℤ (m +ℤ n) *ℤ (l *ℤ L)) ≡ H *ℤ ((m +ℤ n) *ℤ (k +ℤ l)) =
    ring (L ∷ H ∷ m ∷ n ∷ k ∷ l ∷ []) (sum (sum (mul (var 2) (mul (sum (var 4) (var 5)) (var 1))) (mul (sum (var 2) (var 3)) (mul (var 5) (var 0)))) (dif (mul (var 3) (mul (sum (var 4) (var 5)) (var 1))) (mul (sum (var 2) (var 3)) (mul (var 5) (var 0))))) (mul (var 1) (mul (sum (var 2) (var 3)) (sum (var 4) (var 5)))) refl in
    let same : ((pos 0 -ℤ H) *ℤ ((m +ℤ n) *ℤ (k +ℤ l))) *ℤ ((pos 0 -ℤ H) *ℤ ((m +ℤ n) *ℤ (k +ℤ l))) ≡ (H *ℤ ((m +ℤ n) *ℤ (k +ℤ l))) *ℤ (H *ℤ ((m +ℤ n) *ℤ (k +ℤ l))) =
    ring (H ∷ ((m +ℤ n) *ℤ (k +ℤ l)) ∷ []) (mul (mul (dif (num (pos 0)) (var 0)) (var 1)) (mul (dif (num (pos 0)) (var 0)) (var 1))) (mul (mul (var 0) (var 1)) (mul (var 0) (var 1))) refl in
    inr (close_from (pos 0 -ℤ rx) (pos 0 -ℤ ry) ux uy ((m +ℤ n) *ℤ (k +ℤ l)) (gap rx ux vx m n k l) (gap ry uy vy m n k l)
    (m *ℤ ((k +ℤ l) *ℤ H) +ℤ (m +ℤ n) *ℤ (l *ℤ L)) (n *ℤ ((k +ℤ l) *ℤ H) -ℤ (m +ℤ n) *ℤ (l *ℤ L)) (pos 0 -ℤ H)
    (sum_nonneg (m *ℤ ((k +ℤ l) *ℤ H)) ((m +ℤ n) *ℤ (l *ℤ L)) mKH MlL) (omega (arith, ints)) (omega (arith, ints))
    (slide_2 rx ux vx L H m n k l ex) (slide_2 ry uy vy L H m n k l ey)
    (subst (λ z. z ≤ℤ (((m *ℤ ((k +ℤ l) *ℤ H) +ℤ (m +ℤ n) *ℤ (l *ℤ L)) +ℤ (n *ℤ ((k +ℤ l) *ℤ H) -ℤ (m +ℤ n) *ℤ (l *ℤ L))) *ℤ ((m *ℤ ((k +ℤ l) *ℤ H) +ℤ (m +ℤ n) *ℤ (l *ℤ L)) +ℤ (n *ℤ ((k +ℤ l) *ℤ H) -ℤ (m +ℤ n) *ℤ (l *ℤ L))))) (sym same)
    (squares_le (H *ℤ ((m +ℤ n) *ℤ (k +ℤ l))) ((m *ℤ ((k +ℤ l) *ℤ H) +ℤ (m +ℤ n) *ℤ (l *ℤ L)) +ℤ (n *ℤ ((k +ℤ l) *ℤ H) -ℤ (m +ℤ n) *ℤ (l *ℤ L))) (omega (arith, ints)) (omega (arith, ints))))))
    (λ h.
    let own : pos 0 <ℤ (L *ℤ ((m +ℤ n) *ℤ (k +ℤ l))) = mul_pos-pos L ((m +ℤ n) *ℤ (k +ℤ l)) pL (mul_pos-pos (m +ℤ n) (k +ℤ l) M K) in
    let totals : ((m +ℤ n) *ℤ (k *ℤ L) +ℤ n *ℤ ((k +ℤ l) *ℤ H)) +ℤ ((m +ℤ n) *ℤ (l *ℤ L) -ℤ n *ℤ ((k +ℤ l) *ℤ H)) ≡ L *ℤ ((m +ℤ n) *ℤ (k +ℤ l)) =
    ring (L ∷ H ∷ m ∷ n ∷ k ∷ l ∷ []) (sum (sum (mul (sum (var 2) (var 3)) (mul (var 4) (var 0))) (mul (var 3) (mul (sum (var 4) (var 5)) (var 1)))) (dif (mul (sum (var 2) (var 3)) (mul (var 5) (var 0))) (mul (var 3) (mul (sum (var 4) (var 5)) (var 1))))) (mul (var 0) (mul (sum (var 2) (var 3)) (sum (var 4) (var 5)))) refl in
    inl (close_from rx ry vx vy ((m +ℤ n) *ℤ (k +ℤ l)) (gap rx ux vx m n k l) (gap ry uy vy m n k l)
    ((m +ℤ n) *ℤ (k *ℤ L) +ℤ n *ℤ ((k +ℤ l) *ℤ H)) ((m +ℤ n) *ℤ (l *ℤ L) -ℤ n *ℤ ((k +ℤ l) *ℤ H)) L
    (sum_nonneg ((m +ℤ n) *ℤ (k *ℤ L)) (n *ℤ ((k +ℤ l) *ℤ H)) MkL nKH) (omega (arith, ints)) (omega (arith, ints))
    (slide_1 rx ux vx L H m n k l ex) (slide_1 ry uy vy L H m n k l ey)
    (squares_le (L *ℤ ((m +ℤ n) *ℤ (k +ℤ l))) (((m +ℤ n) *ℤ (k *ℤ L) +ℤ n *ℤ ((k +ℤ l) *ℤ H)) +ℤ ((m +ℤ n) *ℤ (l *ℤ L) -ℤ n *ℤ ((k +ℤ l) *ℤ H))) (omega (arith, ints)) (omega (arith, ints)))))
