-- What is said of an edge and a point stays when the plane is drawn larger.
use Rattle.std.proofs.Common.{◌≡◌, ℕ, refl, ap, sym, ◌∙◌, ℤ, pos, ◌*ℤ◌, ◌≤ℤ◌, ◌<ℤ◌, ◌<◌, arith, [], ◌∷◌, ◌&&◌, ◌||◌}
use Rattle.std.specs.Prelude.{int_le, int_lt}
use Rattle.std.specs.Ordering.{int_eq}
use Rattle.std.specs.Int.{int_max, int_min}
use Rattle.std.proofs.lemmas.Int.{clamps, ints, by_lt_z}
use Rattle.sf_grid.specs.Plane.{Coordinates, Point, x_of, y_of}
use Rattle.sf_grid.specs.Edge.{below_rightward, cross, in_box, within}
use Rattle.sf_grid.proofs.Products.{mul_le, mul_lt, lt_from_mul}
use Rattle.sf_grid.proofs.Ring.{ring, var, num, dif, mul}
use Rattle.sf_grid.proofs.NumberTests.{eq_from_test, lt_from_test, same_tests, test_from_eq, test_from_lt}
use Rattle.sf_grid.proofs.PointLaws.{eq_from_mul, int_le-scaled}
use Rattle.sf_distance.specs.Scaled.{ScaledIsAlike, scaled_coordinates, scaled_edge, scaled_point}

min_scaled : (a b : ℤ) (k : ℕ) → int_min (a *ℤ pos k) (b *ℤ pos k) ≡ int_min a b *ℤ pos k
min_scaled a b k =
    by_lt_z a b
    (λ h. let l : (a *ℤ pos k) ≤ℤ (b *ℤ pos k) = mul_le a b k (omega (arith, ints)) in
    let m : int_min a b ≡ a = omega (arith, ints, clamps) in
    let n : int_min (a *ℤ pos k) (b *ℤ pos k) ≡ a *ℤ pos k = omega (arith, ints, clamps) in n ∙ ap (λ z. z *ℤ pos k) (sym m))
    (λ h. let l : (b *ℤ pos k) ≤ℤ (a *ℤ pos k) = mul_le b a k h in
    let m : int_min a b ≡ b = omega (arith, ints, clamps) in
    let n : int_min (a *ℤ pos k) (b *ℤ pos k) ≡ b *ℤ pos k = omega (arith, ints, clamps) in n ∙ ap (λ z. z *ℤ pos k) (sym m))

max_scaled : (a b : ℤ) (k : ℕ) → int_max (a *ℤ pos k) (b *ℤ pos k) ≡ int_max a b *ℤ pos k
max_scaled a b k =
    by_lt_z a b
    (λ h. let l : (a *ℤ pos k) ≤ℤ (b *ℤ pos k) = mul_le a b k (omega (arith, ints)) in
    let m : int_max a b ≡ b = omega (arith, ints, clamps) in
    let n : int_max (a *ℤ pos k) (b *ℤ pos k) ≡ b *ℤ pos k = omega (arith, ints, clamps) in n ∙ ap (λ z. z *ℤ pos k) (sym m))
    (λ h. let l : (b *ℤ pos k) ≤ℤ (a *ℤ pos k) = mul_le b a k h in
    let m : int_max a b ≡ a = omega (arith, ints, clamps) in
    let n : int_max (a *ℤ pos k) (b *ℤ pos k) ≡ a *ℤ pos k = omega (arith, ints, clamps) in n ∙ ap (λ z. z *ℤ pos k) (sym m))

one_less : (x k d : ℤ) → (x *ℤ k *ℤ d) *ℤ pos 1 ≡ (x *ℤ d) *ℤ k
one_less x k d = ring (x ∷ k ∷ d ∷ []) (mul (mul (mul (var 0) (var 1)) (var 2)) (num (pos 1))) (mul (mul (var 0) (var 2)) (var 1)) refl

one_more : (x : ℤ) (k : ℤ) → (x *ℤ k) *ℤ pos 1 ≡ x *ℤ k
one_more x k = ring (x ∷ k ∷ []) (mul (mul (var 0) (var 1)) (num (pos 1))) (mul (var 0) (var 1)) refl

le_scaled_left : (a z : ℤ) (d k : ℕ) → 0 < k → int_le (a *ℤ pos k *ℤ pos d) (z *ℤ pos k) ≡ int_le (a *ℤ pos d) z
le_scaled_left a z d k h =
    int_le-scaled (a *ℤ pos k *ℤ pos d) (z *ℤ pos k) (a *ℤ pos d) z 1 k (omega arith) h (one_less a (pos k) (pos d)) (one_more z (pos k))

le_scaled_right : (a z : ℤ) (d k : ℕ) → 0 < k → int_le (z *ℤ pos k) (a *ℤ pos k *ℤ pos d) ≡ int_le z (a *ℤ pos d)
le_scaled_right a z d k h =
    int_le-scaled (z *ℤ pos k) (a *ℤ pos k *ℤ pos d) z (a *ℤ pos d) 1 k (omega arith) h (one_more z (pos k)) (one_less a (pos k) (pos d))

within_scaled : (a b z : ℤ) (d k : ℕ) → 0 < k →
    within (int_min (a *ℤ pos k) (b *ℤ pos k)) (int_max (a *ℤ pos k) (b *ℤ pos k)) (record { num = z *ℤ pos k; den = d }) ≡ within (int_min a b) (int_max a b) (record { num = z; den = d })
within_scaled a b z d k h =
    ap (λ t. int_le (t *ℤ pos d) (z *ℤ pos k) && int_le (z *ℤ pos k) (int_max (a *ℤ pos k) (b *ℤ pos k) *ℤ pos d)) (min_scaled a b k)
    ∙ ap (λ t. int_le (int_min a b *ℤ pos k *ℤ pos d) (z *ℤ pos k) && int_le (z *ℤ pos k) (t *ℤ pos d)) (max_scaled a b k)
    ∙ ap (λ t. t && int_le (z *ℤ pos k) (int_max a b *ℤ pos k *ℤ pos d)) (le_scaled_left (int_min a b) z d k h)
    ∙ ap (λ t. int_le (int_min a b *ℤ pos d) z && t) (le_scaled_right (int_max a b) z d k h)

cross_scaled : (a b : Coordinates) (p : Point) (k : ℕ) → cross (scaled_coordinates k a) (scaled_coordinates k b) (scaled_point k p) ≡ cross a b p *ℤ pos k *ℤ pos k
cross_scaled a b p k =
    ring (a.x ∷ a.y ∷ b.x ∷ b.y ∷ p.x ∷ p.y ∷ (pos p.d) ∷ (pos k) ∷ []) (dif (mul (dif (mul (var 2) (var 7)) (mul (var 0) (var 7))) (dif (mul (var 5) (var 7)) (mul (mul (var 1) (var 7)) (var 6)))) (mul (dif (mul (var 3) (var 7)) (mul (var 1) (var 7))) (dif (mul (var 4) (var 7)) (mul (mul (var 0) (var 7)) (var 6))))) (mul (mul (dif (mul (dif (var 2) (var 0)) (dif (var 5) (mul (var 1) (var 6)))) (mul (dif (var 3) (var 1)) (dif (var 4) (mul (var 0) (var 6))))) (var 7)) (var 7)) refl

zero_scaled : (z : ℤ) (k : ℕ) → 0 < k → int_eq (z *ℤ pos k *ℤ pos k) (pos 0) ≡ int_eq z (pos 0)
zero_scaled z k h =
    same_tests _ _
    (λ t. test_from_eq z (pos 0)
    (eq_from_mul z (pos 0) k h (eq_from_mul (z *ℤ pos k) (pos 0 *ℤ pos k) k h (eq_from_test (z *ℤ pos k *ℤ pos k) (pos 0) t ∙ ring ((pos k) ∷ []) (num (pos 0)) (mul (mul (num (pos 0)) (var 0)) (var 0)) refl))))
    (λ t. test_from_eq (z *ℤ pos k *ℤ pos k) (pos 0) (ap (λ w. w *ℤ pos k *ℤ pos k) (eq_from_test z (pos 0) t) ∙ ring ((pos k) ∷ []) (mul (mul (num (pos 0)) (var 0)) (var 0)) (num (pos 0)) refl))

below_scaled : (z : ℤ) (k : ℕ) → 0 < k → int_lt (z *ℤ pos k *ℤ pos k) (pos 0) ≡ int_lt z (pos 0)
below_scaled z k h =
    same_tests _ _
    (λ t. test_from_lt z (pos 0)
    (lt_from_mul z (pos 0) k (lt_from_mul (z *ℤ pos k) (pos 0 *ℤ pos k) k (let l : (z *ℤ pos k *ℤ pos k) <ℤ pos 0 = lt_from_test _ _ t in let e : pos 0 *ℤ pos k *ℤ pos k ≡ pos 0 = ring ((pos k) ∷ []) (mul (mul (num (pos 0)) (var 0)) (var 0)) (num (pos 0)) refl in omega (arith, ints)))))
    (λ t. test_from_lt (z *ℤ pos k *ℤ pos k) (pos 0)
    (let l : (z *ℤ pos k *ℤ pos k) <ℤ (pos 0 *ℤ pos k *ℤ pos k) = mul_lt (z *ℤ pos k) (pos 0 *ℤ pos k) k h (mul_lt z (pos 0) k h (lt_from_test _ _ t)) in
    let e : pos 0 *ℤ pos k *ℤ pos k ≡ pos 0 = ring ((pos k) ∷ []) (mul (mul (num (pos 0)) (var 0)) (var 0)) (num (pos 0)) refl in omega (arith, ints)))

lt_scaled : (a z : ℤ) (d k : ℕ) → 0 < k → int_lt (z *ℤ pos k) (a *ℤ pos k *ℤ pos d) ≡ int_lt z (a *ℤ pos d)
lt_scaled a z d k h =
    let e : a *ℤ pos k *ℤ pos d ≡ a *ℤ pos d *ℤ pos k = ring (a ∷ (pos k) ∷ (pos d) ∷ []) (mul (mul (var 0) (var 1)) (var 2)) (mul (mul (var 0) (var 2)) (var 1)) refl in
    same_tests _ _
    (λ t. test_from_lt z (a *ℤ pos d) (lt_from_mul z (a *ℤ pos d) k (let l : (z *ℤ pos k) <ℤ (a *ℤ pos k *ℤ pos d) = lt_from_test _ _ t in omega (arith, ints))))
    (λ t. test_from_lt (z *ℤ pos k) (a *ℤ pos k *ℤ pos d) (let l : (z *ℤ pos k) <ℤ (a *ℤ pos d *ℤ pos k) = mul_lt z (a *ℤ pos d) k h (lt_from_test _ _ t) in omega (arith, ints)))

rightward_scaled : (u v : Coordinates) (p : Point) (k : ℕ) → 0 < k → below_rightward (scaled_coordinates k u) (scaled_coordinates k v) (scaled_point k p) ≡ below_rightward u v p
rightward_scaled u v p k h =
    ap (λ t. t && int_lt (p.x *ℤ pos k) (v.x *ℤ pos k *ℤ pos p.d) && int_lt (cross (scaled_coordinates k u) (scaled_coordinates k v) (scaled_point k p)) (pos 0)) (le_scaled_left u.x p.x p.d k h)
    ∙ ap (λ t. int_le (u.x *ℤ pos p.d) p.x && t && int_lt (cross (scaled_coordinates k u) (scaled_coordinates k v) (scaled_point k p)) (pos 0)) (lt_scaled v.x p.x p.d k h)
    ∙ ap (λ t. int_le (u.x *ℤ pos p.d) p.x && int_lt p.x (v.x *ℤ pos p.d) && int_lt t (pos 0)) (cross_scaled u v p k)
    ∙ ap (λ t. int_le (u.x *ℤ pos p.d) p.x && int_lt p.x (v.x *ℤ pos p.d) && t) (below_scaled (cross u v p) k h)

pub scaled_is_alike : ScaledIsAlike
scaled_is_alike k e p h =
    record {
      on =
          ap (λ t. int_eq t (pos 0) && in_box (scaled_edge k e) (scaled_point k p)) (cross_scaled e.a e.b p k)
          ∙ ap (λ t. t && in_box (scaled_edge k e) (scaled_point k p)) (zero_scaled (cross e.a e.b p) k h)
          ∙ ap (λ t. int_eq (cross e.a e.b p) (pos 0) && (t && within (int_min (e.a.y *ℤ pos k) (e.b.y *ℤ pos k)) (int_max (e.a.y *ℤ pos k) (e.b.y *ℤ pos k)) (y_of (scaled_point k p)))) (within_scaled e.a.x e.b.x p.x p.d k h)
          ∙ ap (λ t. int_eq (cross e.a e.b p) (pos 0) && (within (int_min e.a.x e.b.x) (int_max e.a.x e.b.x) (x_of p) && t)) (within_scaled e.a.y e.b.y p.y p.d k h);
      above =
          ap (λ t. t || below_rightward (scaled_coordinates k e.b) (scaled_coordinates k e.a) (scaled_point k p)) (rightward_scaled e.a e.b p k h)
          ∙ ap (λ t. below_rightward e.a e.b p || t) (rightward_scaled e.b e.a p k h);
    }
