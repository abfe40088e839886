-- Mixed numbers compare by their whole parts, and then by their fractions; the root of one is that of its whole part, scaled before.
use Rattle.std.proofs.Common.{◌≡◌, ℕ, refl, sym, ◌∙◌, ℤ, pos, ◌+ℤ◌, ◌-ℤ◌, ◌*ℤ◌, ◌≤ℤ◌, ◌<ℤ◌, ◌+◌, ◌*◌, ◌≤◌, ◌<◌, arith, [], ◌∷◌}
use Rattle.std.specs.Ordering.{int_cmp, nat_cmp}
use Rattle.std.proofs.lemmas.Int.{ints, by_lt_z}
use Rattle.std.proofs.Math.Nat.{mul-le-mul_right}
use Rattle.sf_grid.proofs.Products.{mul_nonneg-nonneg, mul_pos-pos}
use Rattle.sf_grid.proofs.Ring.{ring, var, num, sum, dif, mul}
use Rattle.sf_grid.proofs.OrderLaws.{is_equal, is_greater, is_less}

pub mixed_less : (w r d w' r' d' : ℕ) → r < d → r' < d' → w < w' → (pos (w * d + r) *ℤ pos d') <ℤ (pos (w' * d' + r') *ℤ pos d)
mixed_less w r d w' r' d' h h' l =
    let first : pos 0 ≤ℤ ((pos w' -ℤ pos w -ℤ pos 1) *ℤ (pos d *ℤ pos d')) =
    mul_nonneg-nonneg (pos w' -ℤ pos w -ℤ pos 1) (pos d *ℤ pos d') (omega (arith, ints)) (mul_nonneg-nonneg (pos d) (pos d') (omega (arith, ints)) (omega (arith, ints))) in
    let second : pos 0 <ℤ ((pos d -ℤ pos r) *ℤ pos d') = mul_pos-pos (pos d -ℤ pos r) (pos d') (omega (arith, ints)) (omega (arith, ints)) in
    let third : pos 0 ≤ℤ (pos r' *ℤ pos d) = mul_nonneg-nonneg (pos r') (pos d) (omega (arith, ints)) (omega (arith, ints)) in
    let is : (pos w' *ℤ pos d' +ℤ pos r') *ℤ pos d ≡ (pos w *ℤ pos d +ℤ pos r) *ℤ pos d' +ℤ ((pos w' -ℤ pos w -ℤ pos 1) *ℤ (pos d *ℤ pos d') +ℤ ((pos d -ℤ pos r) *ℤ pos d' +ℤ pos r' *ℤ pos d)) =
    ring ((pos w) ∷ (pos r) ∷ (pos d) ∷ (pos w') ∷ (pos r') ∷ (pos d') ∷ []) (mul (sum (mul (var 3) (var 5)) (var 4)) (var 2)) (sum (mul (sum (mul (var 0) (var 2)) (var 1)) (var 5)) (sum (mul (dif (dif (var 3) (var 0)) (num (pos 1))) (mul (var 2) (var 5))) (sum (mul (dif (var 2) (var 1)) (var 5)) (mul (var 4) (var 2))))) refl in
    past ((pos w *ℤ pos d +ℤ pos r) *ℤ pos d') ((pos w' *ℤ pos d' +ℤ pos r') *ℤ pos d) ((pos w' -ℤ pos w -ℤ pos 1) *ℤ (pos d *ℤ pos d')) ((pos d -ℤ pos r) *ℤ pos d') (pos r' *ℤ pos d) is first second third
  where
    past : (a b x y z : ℤ) → b ≡ a +ℤ (x +ℤ (y +ℤ z)) → pos 0 ≤ℤ x → pos 0 <ℤ y → pos 0 ≤ℤ z → a <ℤ b
    past a b x y z e h k l = omega (arith, ints)

cmp_shifted : (a b c x y : ℤ) → a ≡ c +ℤ x → b ≡ c +ℤ y → int_cmp x y ≡ int_cmp a b
cmp_shifted a b c x y e f =
    by_lt_z x y
    (λ h. is_less x y h ∙ sym (is_less a b (omega (arith, ints))))
    (λ h. by_lt_z y x
    (λ k. is_greater x y k ∙ sym (is_greater a b (omega (arith, ints))))
    (λ k. is_equal x y (omega (arith, ints)) ∙ sym (is_equal a b (omega (arith, ints)))))

nat_as_int : (a b : ℕ) → nat_cmp a b ≡ int_cmp (pos a) (pos b)
nat_as_int a b = grind (arith, ints)

pub mixed_same : (w r d r' d' : ℕ) → nat_cmp (r * d') (r' * d) ≡ int_cmp (pos (w * d + r) *ℤ pos d') (pos (w * d' + r') *ℤ pos d)
mixed_same w r d r' d' =
    nat_as_int (r * d') (r' * d)
    ∙ cmp_shifted ((pos w *ℤ pos d +ℤ pos r) *ℤ pos d') ((pos w *ℤ pos d' +ℤ pos r') *ℤ pos d) (pos w *ℤ (pos d *ℤ pos d')) (pos r *ℤ pos d') (pos r' *ℤ pos d)
    (ring ((pos w) ∷ (pos r) ∷ (pos d) ∷ (pos d') ∷ []) (mul (sum (mul (var 0) (var 2)) (var 1)) (var 3)) (sum (mul (var 0) (mul (var 2) (var 3))) (mul (var 1) (var 3))) refl)
    (ring ((pos w) ∷ (pos r') ∷ (pos d) ∷ (pos d') ∷ []) (mul (sum (mul (var 0) (var 3)) (var 1)) (var 2)) (sum (mul (var 0) (mul (var 2) (var 3))) (mul (var 1) (var 2))) refl)

-- ---- roots
pub root_below : (r v d n : ℕ) → r * r ≤ v → v * d ≤ n → r * r * d ≤ n
root_below r v d n h k = omega (arith, mul-le-mul_right d h)

pub root_above : (r v d n : ℕ) → v < (r + 1) * (r + 1) → n < (v + 1) * d → n < (r + 1) * (r + 1) * d
root_above r v d n h k = let j : v + 1 ≤ (r + 1) * (r + 1) = omega arith in omega (arith, mul-le-mul_right d j)

-- w + r/d, times k, rounded down
pub scaled_below : (w r d k q : ℕ) → q * d ≤ r * k → (w * k + q) * d ≤ (w * d + r) * k
scaled_below w r d k q h = omega (arith, ints, ring ((pos w) ∷ (pos k) ∷ (pos d) ∷ []) (mul (mul (var 0) (var 1)) (var 2)) (mul (mul (var 0) (var 2)) (var 1)) refl)

pub scaled_above : (w r d k q : ℕ) → r * k < (q + 1) * d → (w * d + r) * k < (w * k + q + 1) * d
scaled_above w r d k q h = omega (arith, ints, ring ((pos w) ∷ (pos k) ∷ (pos d) ∷ []) (mul (mul (var 0) (var 1)) (var 2)) (mul (mul (var 0) (var 2)) (var 1)) refl)
