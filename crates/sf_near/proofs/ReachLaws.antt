-- Two points that are no farther apart than a reach: how far apart the numbers are between which their coordinates lie.
use Rattle.std.proofs.Common.{◌≡◌, refl, ℕ, ◌*◌, ◌<◌, ℤ, pos, ◌+ℤ◌, ◌-ℤ◌, ◌*ℤ◌, ◌≤ℤ◌, arith, [], ◌∷◌}
use Rattle.std.proofs.lemmas.Int.{ints, by_lt_z}
use Rattle.sf_grid.proofs.CallerLemmas.{dif, le_from_mul, mul, mul_le, mul_nonneg-nonneg, num, ring, sum, var}
use Rattle.sf_grid.proofs.OrderLaws.{product_pos}
use Rattle.sf_grid.proofs.Products.{square_nonneg}
use Rattle.sf_distance.specs.Reaches.{steps_of_reach}
use Rattle.sf_distance.proofs.CloseLaws.{squares_le}

-- a leg is no longer than what the squares of both make up
leg : (x y w : ℤ) → pos 0 ≤ℤ w → (x *ℤ x +ℤ y *ℤ y) ≤ℤ (w *ℤ w) → x ≤ℤ w
leg x y w n h =
    by_lt_z w x
    (λ l.
    let more : ((w +ℤ pos 1) *ℤ (w +ℤ pos 1)) ≤ℤ (x *ℤ x) = squares_le (w +ℤ pos 1) x (omega (arith, ints)) (omega (arith, ints)) in
    let is : (w +ℤ pos 1) *ℤ (w +ℤ pos 1) ≡ w *ℤ w +ℤ (w +ℤ (w +ℤ pos 1)) =
    ring (w ∷ []) (mul (sum (var 0) (num (pos 1))) (sum (var 0) (num (pos 1)))) (sum (mul (var 0) (var 0)) (sum (var 0) (sum (var 0) (num (pos 1))))) refl in
    absurd (apart (w *ℤ w) w (x *ℤ x) (y *ℤ y) ((w +ℤ pos 1) *ℤ (w +ℤ pos 1)) n h more is (square_nonneg y)))
    (λ l. l)
  where
    apart : (ww w xx yy more : ℤ) → pos 0 ≤ℤ w → (xx +ℤ yy) ≤ℤ ww → more ≤ℤ xx → more ≡ ww +ℤ (w +ℤ (w +ℤ pos 1)) → pos 0 ≤ℤ yy → ⊥
    apart ww w xx yy more n h k e p = omega (arith, ints)

-- so is neither in thousandths, where the squares are at most that of a reach
leg-within : (x y : ℤ) (t d : ℕ) → ((x *ℤ x +ℤ y *ℤ y) *ℤ pos 1000000) ≤ℤ (pos (t * t) *ℤ pos (d * d)) → (x *ℤ pos 1000) ≤ℤ (pos t *ℤ pos d)
leg-within x y t d h =
    leg (x *ℤ pos 1000) (y *ℤ pos 1000) (pos t *ℤ pos d) (mul_nonneg-nonneg (pos t) (pos d) (omega (arith, ints)) (omega (arith, ints)))
    (moved
    ((x *ℤ pos 1000) *ℤ (x *ℤ pos 1000) +ℤ (y *ℤ pos 1000) *ℤ (y *ℤ pos 1000)) ((x *ℤ x +ℤ y *ℤ y) *ℤ pos 1000000)
    ((pos t *ℤ pos d) *ℤ (pos t *ℤ pos d)) (pos (t * t) *ℤ pos (d * d))
    (ring (x ∷ y ∷ []) (sum (mul (mul (var 0) (num (pos 1000))) (mul (var 0) (num (pos 1000)))) (mul (mul (var 1) (num (pos 1000))) (mul (var 1) (num (pos 1000))))) (mul (sum (mul (var 0) (var 0)) (mul (var 1) (var 1))) (num (pos 1000000))) refl)
    (ring (pos t ∷ pos d ∷ []) (mul (mul (var 0) (var 1)) (mul (var 0) (var 1))) (mul (mul (var 0) (var 0)) (mul (var 1) (var 1))) refl)
    h)
  where
    moved : (a b c e : ℤ) → a ≡ b → c ≡ e → b ≤ℤ e → a ≤ℤ c
    moved a b c e f g h = omega (arith, ints)

-- whichever way a difference is taken, and of both coordinates
pub record AreLegs (x y w : ℤ) : Type 0 where
  pub right : (x *ℤ pos 1000) ≤ℤ w
  pub left : ((pos 0 -ℤ x) *ℤ pos 1000) ≤ℤ w
  pub up : (y *ℤ pos 1000) ≤ℤ w
  pub down : ((pos 0 -ℤ y) *ℤ pos 1000) ≤ℤ w

pub are-legs : (x y : ℤ) (t d : ℕ) → ((x *ℤ x +ℤ y *ℤ y) *ℤ pos 1000000) ≤ℤ (pos (t * t) *ℤ pos (d * d)) → AreLegs x y (pos t *ℤ pos d)
are-legs x y t d h = record {
  right = leg-within x y t d h;
  left = leg-within (pos 0 -ℤ x) y t d (moved _ _ _ (ring (x ∷ y ∷ []) (mul (sum (mul (dif (num (pos 0)) (var 0)) (dif (num (pos 0)) (var 0))) (mul (var 1) (var 1))) (num (pos 1000000))) (mul (sum (mul (var 0) (var 0)) (mul (var 1) (var 1))) (num (pos 1000000))) refl) h);
  up = leg-within y x t d (moved _ _ _ (ring (x ∷ y ∷ []) (mul (sum (mul (var 1) (var 1)) (mul (var 0) (var 0))) (num (pos 1000000))) (mul (sum (mul (var 0) (var 0)) (mul (var 1) (var 1))) (num (pos 1000000))) refl) h);
  down = leg-within (pos 0 -ℤ y) x t d (moved _ _ _ (ring (x ∷ y ∷ []) (mul (sum (mul (dif (num (pos 0)) (var 1)) (dif (num (pos 0)) (var 1))) (mul (var 0) (var 0))) (num (pos 1000000))) (mul (sum (mul (var 0) (var 0)) (mul (var 1) (var 1))) (num (pos 1000000))) refl) h);
}
  where
    moved : (a b c : ℤ) → a ≡ b → b ≤ℤ c → a ≤ℤ c
    moved a b c e h = omega (arith, ints)

-- whole numbers so many thousandths apart
steps : (m n : ℤ) (t : ℕ) → ((m -ℤ n) *ℤ pos 1000) ≤ℤ pos t → m ≤ℤ (n +ℤ pos (steps_of_reach t))
steps m n t h = omega (arith, ints)

-- the first point's coordinate is at least m and the second one's at most n, and the first is no farther above the second than the reach
pub steps-between : (m n px qx : ℤ) (pd qd t : ℕ) → 0 < pd → 0 < qd → (m *ℤ pos pd) ≤ℤ px → qx ≤ℤ (n *ℤ pos qd)
    → ((px *ℤ pos qd -ℤ qx *ℤ pos pd) *ℤ pos 1000) ≤ℤ (pos t *ℤ pos (pd * qd)) → m ≤ℤ (n +ℤ pos (steps_of_reach t))
steps-between m n px qx pd qd t hp hq low high near =
    steps m n t
    (le_from_mul ((m -ℤ n) *ℤ pos 1000) (pos t) (pd * qd) (product_pos pd qd hp hq)
    (joined (((m -ℤ n) *ℤ pos 1000) *ℤ pos (pd * qd)) (m *ℤ pos pd *ℤ pos qd) (px *ℤ pos qd) (qx *ℤ pos pd) (n *ℤ pos qd *ℤ pos pd) (pos t *ℤ pos (pd * qd))
    (ring (m ∷ n ∷ pos pd ∷ pos qd ∷ []) (mul (mul (dif (var 0) (var 1)) (num (pos 1000))) (mul (var 2) (var 3))) (mul (dif (mul (mul (var 0) (var 2)) (var 3)) (mul (mul (var 1) (var 3)) (var 2))) (num (pos 1000))) refl)
    (mul_le (m *ℤ pos pd) px qd low) (mul_le qx (n *ℤ pos qd) pd high) near))
  where
    joined : (g a b c e w : ℤ) → g ≡ (a -ℤ e) *ℤ pos 1000 → a ≤ℤ b → c ≤ℤ e → ((b -ℤ c) *ℤ pos 1000) ≤ℤ w → g ≤ℤ w
    joined g a b c e w is h k l = omega (arith, ints)
