-- Equal fractions have equal quotients, rounded down.
use Rattle.std.proofs.Common.{◌≡◌, ap, sym, ◌∙◌, ℕ, suc, ◌+◌, ◌-◌, ◌*◌, ◌/◌, ◌<◌, ℤ, pos, negsuc, ◌*ℤ◌, ◌<ℤ◌, neg_ℤ, arith}
use Rattle.std.specs.Int.{int_div_euclid}
use Rattle.std.proofs.Math.Nat.{div-div-eq-div-mul, div-eq_of_lt, mul-add-div_right, mul-div-mul_right}
use Rattle.std.proofs.lemmas.Int.{ints}

commute : (m n : ℕ) → m * n ≡ n * m
commute m n = omega arith

-- a / m = b / n where a n = b m
of_positive : (a b m n : ℕ) → 0 < m → 0 < n → a * n ≡ b * m → a / m ≡ b / n
of_positive a b m n h k e =
    sym (mul-div-mul_right a m k) ∙ ap (λ x. x / (m * n)) e ∙ ap (λ x. b * m / x) (commute m n) ∙ mul-div-mul_right b n h

-- the same of numbers below zero, whose quotients are of the numbers one nearer to it
spread : (a m n : ℕ) → 0 < n → (a * n + (n - 1)) / (n * m) ≡ a / m
spread a m n h =
    let below : n - 1 < n = omega arith in
    let none : a + 0 ≡ a = omega arith in
    sym (div-div-eq-div-mul (a * n + (n - 1)) n m) ∙ ap (λ x. x / m) (mul-add-div_right h a (n - 1) ∙ ap (λ x. a + x) (div-eq_of_lt below) ∙ none)

one_less : (a b m n : ℕ) → 0 < m → 0 < n → suc a * n ≡ suc b * m → a * n + (n - 1) ≡ b * m + (m - 1)
one_less a b m n h k e = omega arith

of_negative : (a b m n : ℕ) → 0 < m → 0 < n → suc a * n ≡ suc b * m → a / m ≡ b / n
of_negative a b m n h k e =
    sym (spread a m n k) ∙ ap (λ x. x / (n * m)) (one_less a b m n h k e) ∙ ap (λ x. (b * m + (m - 1)) / x) (commute n m) ∙ spread b n m h

-- a / c = b / d where a d = b c
pub same_quotient : (a b c d : ℤ) → pos 0 <ℤ c → pos 0 <ℤ d → a *ℤ d ≡ b *ℤ c → int_div_euclid a c ≡ int_div_euclid b d
same_quotient (pos a) (pos b) (pos m) (pos n) h k e = ap pos (of_positive a b m n (above m h) (above n k) (naturals (a * n) (b * m) e))
  where
    above : (m : ℕ) → pos 0 <ℤ pos m → 0 < m
    above m h = omega (arith, ints)

    naturals : (x y : ℕ) → pos x ≡ pos y → x ≡ y
    naturals x y e = cc
same_quotient (pos a) (negsuc b) (pos m) (pos n) h k e = absurd (apart (a * n) b m h e)
  where
    apart : (x b m : ℕ) → pos 0 <ℤ pos m → pos x ≡ negsuc b *ℤ pos m → ⊥
    apart x b m h e = omega (arith, ints)
same_quotient (negsuc a) (pos b) (pos m) (pos n) h k e = absurd (apart a n (b * m) k e)
  where
    apart : (a n y : ℕ) → pos 0 <ℤ pos n → negsuc a *ℤ pos n ≡ pos y → ⊥
    apart a n y k e = omega (arith, ints)
same_quotient (negsuc a) (negsuc b) (pos m) (pos n) h k e = ap negsuc (of_negative a b m n (above m h) (above n k) (opposite (suc a * n) (suc b * m) e))
  where
    above : (m : ℕ) → pos 0 <ℤ pos m → 0 < m
    above m h = omega (arith, ints)

    opposite : (x y : ℕ) → neg_ℤ (pos x) ≡ neg_ℤ (pos y) → x ≡ y
    opposite x y e = omega (arith, ints)
same_quotient a b (negsuc m) d h k e = absurd (omega (arith, ints))
same_quotient a b (pos m) (negsuc n) h k e = absurd (omega (arith, ints))
