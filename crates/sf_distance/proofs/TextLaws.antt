-- The root that is found bit by bit is the root rounded down; Euclid's remainders end at the greatest common divisor, and so many times
-- as large numbers have one so many times as large. So fractions that are one number are written alike.
use Rattle.std.proofs.Common.{◌≡◌, ◌⊎◌, inl, inr, refl, ap, subst, sym, ◌∙◌, ℕ, zero, suc, ◌+◌, ◌*◌, ◌/◌, ◌%◌, ◌-◌, ◌^◌, ◌<◌, ◌≤◌, ℤ, pos, ◌*ℤ◌, ◌≤ℤ◌, arith, Bool, true, false}
use Rattle.std.specs.Prelude.{IsTrue, nat_le, unsigned_abs, if◌then◌else◌}
use Rattle.std.specs.Int.{IsGcd}
use Rattle.std.proofs.lemmas.Bool.Decides.{nat_tests}
use Rattle.std.proofs.lemmas.Int.{ints}
use Rattle.std.proofs.lemmas.Nat.{mod-mul-add, mul-le}
use Rattle.std.proofs.lemmas.Nat.Gcd.{IsGcd-from_mod, IsGcd-from_zero, same_from_IsGcd}
use Rattle.std.proofs.Math.Nat.{div-mul-le_self, eq_of_mul-eq-mul_right, lt-div-mul-add, lt_of_mul-lt-mul_right, mod-eq-sub-div-mul, mod-lt, mul-div-mul_right, mul-lt-mul_of_pos_left, pos_of_dvd_of_pos, pow-suc}
use Rattle.sf_grid.specs.Fraction.{Fraction, fraction_eq}
use Rattle.sf_grid.proofs.NumberTests.{eq_from_test}
use Rattle.sf_distance.specs.Laws.{EqualIsWrittenAlike}
use Rattle.sf_distance.specs.Mixed.{IsRoot, IsRootIn, Mixed, number_of}
use Rattle.sf_distance.specs.Texts.{gcd, gcd_within, root_from, root_of, square_text, terms_text, thousandths_of_root, thousandths_text}

-- ---- roots
le_from : (n m : ℕ) → nat_le n m ≡ true → n ≤ m
le_from n m h = grind (arith, nat_tests)

above_from : (n m : ℕ) → nat_le n m ≡ false → m < n
above_from n m h = grind (arith, nat_tests)

-- the greatest number with so many bits is twice that with one bit less
one_bit : (r n bits : ℕ) → n < (r + 2 ^ suc bits) * (r + 2 ^ suc bits) → n < ((r + 2 ^ bits) + 2 ^ bits) * ((r + 2 ^ bits) + 2 ^ bits)
one_bit r n bits h =
    let twice : r + 2 ^ suc bits ≡ (r + 2 ^ bits) + 2 ^ bits = omega (arith, pow-suc 2 bits) in
    subst (λ m. n < m * m) twice h

-- with nothing known before
first_bit : (n bits : ℕ) → n < (0 + 2 ^ suc bits) * (0 + 2 ^ suc bits) → n < (2 ^ bits + 2 ^ bits) * (2 ^ bits + 2 ^ bits)
first_bit n bits h =
    let twice : 0 + 2 ^ suc bits ≡ 2 ^ bits + 2 ^ bits = omega (arith, pow-suc 2 bits) in
    subst (λ m. n < m * m) twice h

from_none : (n k : ℕ) → n < k * k → n < (0 + k) * (0 + k)
from_none n k h = let same : k ≡ 0 + k = omega arith in subst (λ m. n < m * m) same h

by_square : (P : ℕ → Type 0) (b : Bool) (m n x y : ℕ) → nat_le m n ≡ b → (m ≤ n → P x) → (n < m → P y) → P (if b then x else y)
by_square P true m n x y is upper lower = upper (le_from m n is)
by_square P false m n x y is upper lower = lower (above_from m n is)

root-found : (bits r n : ℕ) → r * r ≤ n → n < (r + 2 ^ bits) * (r + 2 ^ bits) → IsRoot n (root_from bits r n)
unfolding root_from
root-found zero r n low high = record { below = low; above = high }
root-found (suc bits) zero n low high =
    by_square (IsRoot n) (nat_le (2 ^ bits * 2 ^ bits) n) (2 ^ bits * 2 ^ bits) n (root_from bits (2 ^ bits) n) (root_from bits zero n) refl
    (λ at. root-found bits (2 ^ bits) n at (first_bit n bits high)) (λ under. root-found bits zero n low (from_none n (2 ^ bits) under))
root-found (suc bits) (suc r) n low high =
    by_square (IsRoot n) (nat_le ((suc r + 2 ^ bits) * (suc r + 2 ^ bits)) n) ((suc r + 2 ^ bits) * (suc r + 2 ^ bits)) n (root_from bits (suc r + 2 ^ bits) n) (root_from bits (suc r) n) refl
    (λ at. root-found bits (suc r + 2 ^ bits) n at (one_bit (suc r) n bits high)) (λ under. root-found bits (suc r) n low under)

root-is : (n : ℕ) → n < 2 ^ 128 → IsRoot n (root_of n)
root-is n small = root-found 64 0 n (omega arith) (omega (arith, small))

order : (r s : ℕ) → (s ≤ r) ⊎ (r + 1 ≤ s)
order r zero = inl (omega arith)
order zero (suc s) = inr (omega arith)
order (suc r) (suc s) = further (order r s)
  where
    further : (s ≤ r) ⊎ (r + 1 ≤ s) → (suc s ≤ suc r) ⊎ (suc r + 1 ≤ suc s)
    further (inl h) = inl (omega (arith, h))
    further (inr h) = inr (omega (arith, h))

no_less : (n r s : ℕ) → n < (r + 1) * (r + 1) → s * s ≤ n → s ≤ r
no_less n r s above below = by (order r s)
  where
    by : (s ≤ r) ⊎ (r + 1 ≤ s) → s ≤ r
    by (inl h) = h
    by (inr h) = let squares : (r + 1) * (r + 1) ≤ s * s = mul-le (r + 1) (r + 1) s s h h in absurd (omega (arith, squares, above, below))

-- there is but one root
root-one : (n r s : ℕ) → IsRoot n r → IsRoot n s → r ≡ s
root-one n r s is other = omega (arith, no_less n r s is.above other.below, no_less n s r other.above is.below)

-- the root of a quotient
quotient-root : (n d r : ℕ) → r < 2 ^ 64 → r * r * d ≤ n → n < (r + 1) * (r + 1) * d → r ≡ root_of (n / d)
quotient-root n d r small low high =
    let some : 0 < d = positive d n ((r + 1) * (r + 1)) high in
    let below : r * r < n / d + 1 = lt_of_mul-lt-mul_right d (under n d (r * r * d) (n / d) low (lt-div-mul-add some)) in
    let above : n / d < (r + 1) * (r + 1) = lt_of_mul-lt-mul_right d (before n (n / d * d) ((r + 1) * (r + 1) * d) (div-mul-le_self n d) high) in
    let most : (r + 1) * (r + 1) ≤ 2 ^ 64 * 2 ^ 64 = mul-le (r + 1) (r + 1) (2 ^ 64) (2 ^ 64) (omega (arith, small)) (omega (arith, small)) in
    root-one (n / d) r (root_of (n / d)) (record { below = omega (arith, below); above = above }) (root-is (n / d) (omega (arith, above, most)))
  where
    positive : (d n s : ℕ) → n < s * d → 0 < d
    positive zero n s h = absurd (omega (arith, h))
    positive (suc d) n s h = omega arith

    under : (n d a q : ℕ) → a ≤ n → n < q * d + d → a < (q + 1) * d
    under n d a q h k = omega (arith, h, k)

    before : (n a b : ℕ) → a ≤ n → n < b → a < b
    before n a b h k = omega (arith, h, k)

pub thousandths-are : (m : Mixed) (r : ℕ) → r < 2 ^ 64 → IsRootIn 1000 m r → r ≡ thousandths_of_root (number_of m)
thousandths-are m r small is = quotient-root ((m.whole * m.den + m.rest) * 1000000) m.den r small is.below is.above

-- ---- the greatest common divisor
pub divisor-some : (a b g : ℕ) → 1 ≤ b → IsGcd a b g → 1 ≤ g
divisor-some a b g some is = pos_of_dvd_of_pos is.1 some

scaled-mod : (k a b : ℕ) → 0 < k → 0 < b → (k * a) % (k * b) ≡ k * (a % b)
scaled-mod k a b h some =
    ap (λ (z : ℕ). k * z % (k * b)) (parts (a / b * b) a (a % b) (div-mul-le_self a b) (mod-eq-sub-div-mul a b))
    ∙ ap (λ (z : ℕ). z % (k * b)) (spread k (a / b) b (a % b))
    ∙ mod-mul-add (a / b) (k * b) (k * (a % b)) (mul-lt-mul_of_pos_left (mod-lt a some) h)
  where
    parts : (q a r : ℕ) → q ≤ a → r ≡ a - q → a ≡ q + r
    parts q a r h e = omega (arith, h, e)

    spread : (k q b r : ℕ) → k * (q * b + r) ≡ q * (k * b) + k * r
    spread k q b r = omega arith

gcd-scaled : (k steps a b : ℕ) → 0 < k → b ≤ steps → IsGcd (k * a) (k * b) (k * gcd_within steps a b)
unfolding gcd_within
gcd-scaled k zero a b h few = IsGcd-from_zero (k * a) (k * b) (none k b few)
  where
    none : (k b : ℕ) → b ≤ 0 → k * b ≡ 0
    none k zero few = omega arith
    none k (suc b) few = absurd (omega (arith, few))
gcd-scaled k (suc steps) a zero h few = IsGcd-from_zero (k * a) (k * 0) (omega arith)
gcd-scaled k (suc steps) a (suc b) h few =
    let rest : a % suc b < suc b = mod-lt a (omega arith) in
    IsGcd-from_mod (k * a) (k * suc b) (k * gcd_within steps (suc b) (a % suc b))
    (subst (λ (r : ℕ). IsGcd (k * suc b) r (k * gcd_within steps (suc b) (a % suc b))) (sym (scaled-mod k a (suc b) h (omega arith)))
    (gcd-scaled k steps (suc b) (a % suc b) h (omega (arith, rest, few))))

once : (n : ℕ) → 1 * n ≡ n
once n = omega arith

gcd-is : (a b : ℕ) → IsGcd a b (gcd a b)
gcd-is a b =
    subst (λ (n : ℕ). IsGcd n b (gcd a b)) (once a)
    (subst (λ (n : ℕ). IsGcd (1 * a) n (gcd a b)) (once b) (subst (λ (n : ℕ). IsGcd (1 * a) (1 * b) n) (once (gcd a b)) (gcd-scaled 1 b a b (omega arith) (omega arith))))

-- the terms of a fraction over any greatest common divisor
terms-are : (n d g : ℕ) → IsGcd n d g → terms_text (n / g) (d / g) ≡ terms_text (n / gcd n d) (d / gcd n d)
terms-are n d g is = ap (λ (k : ℕ). terms_text (n / k) (d / k)) (same_from_IsGcd n d g (gcd n d) is (gcd-is n d))

pub terms-of : (m : Mixed) (n d g : ℕ) → n ≡ m.whole * m.den + m.rest → d ≡ m.den → IsGcd n d g → terms_text (n / g) (d / g) ≡ square_text (number_of m)
terms-of m n d g num den is =
    terms-are n d g is
    ∙ ap (λ (k : ℕ). terms_text (k / gcd k d) (d / gcd k d)) num
    ∙ ap (λ (k : ℕ). terms_text ((m.whole * m.den + m.rest) / gcd (m.whole * m.den + m.rest) k) (k / gcd (m.whole * m.den + m.rest) k)) den

-- ---- fractions that are one number
same-quotient : (n d m e : ℕ) → 0 < d → 0 < e → n * e ≡ m * d → n / d ≡ m / e
same-quotient n d m e some other same =
    sym (mul-div-mul_right n d other) ∙ ap (λ (z : ℕ). z / (d * e)) same ∙ ap (λ (z : ℕ). m * d / z) (back d e) ∙ mul-div-mul_right m e some
  where
    back : (d e : ℕ) → d * e ≡ e * d
    back d e = omega arith

turned : (a b : ℕ) → a * b ≡ b * a
turned a b = omega arith

-- e times the divisor of the one is d times that of the other
divisors : (n d m e : ℕ) → 0 < d → 0 < e → n * e ≡ m * d → e * gcd n d ≡ d * gcd m e
divisors n d m e some other same =
    same_from_IsGcd (e * n) (e * d) (e * gcd n d) (d * gcd m e) (gcd-scaled e d n d other (omega arith))
    (subst (λ (z : ℕ). IsGcd z (e * d) (d * gcd m e)) (turned d m ∙ sym same ∙ turned n e)
    (subst (λ (z : ℕ). IsGcd (d * m) z (d * gcd m e)) (turned d e) (gcd-scaled d e m e some (omega arith))))

-- so the numerators over the divisors are one number too
numerators : (n d m e g h : ℕ) → 0 < e → n * e ≡ m * d → e * g ≡ d * h → n * h ≡ m * g
numerators n d m e g h other same is =
    eq_of_mul-eq-mul_right e other (n * h) (m * g) (first n h e ∙ ap (λ (z : ℕ). z * h) same ∙ second m d h ∙ ap (λ (z : ℕ). m * z) (sym is) ∙ third m e g)
  where
    first : (n h e : ℕ) → n * h * e ≡ n * e * h
    first n h e = omega arith

    second : (m d h : ℕ) → m * d * h ≡ m * (d * h)
    second m d h = omega arith

    third : (m e g : ℕ) → m * (e * g) ≡ m * g * e
    third m e g = omega arith

alike : (n d m e : ℕ) → 0 < d → 0 < e → n * e ≡ m * d → terms_text (n / gcd n d) (d / gcd n d) ≡ terms_text (m / gcd m e) (e / gcd m e)
alike n d m e some other same =
    let is : e * gcd n d ≡ d * gcd m e = divisors n d m e some other same in
    let g : 0 < gcd n d = divisor-some n d (gcd n d) some (gcd-is n d) in
    let h : 0 < gcd m e = divisor-some m e (gcd m e) other (gcd-is m e) in
    ap (λ (z : ℕ). terms_text z (d / gcd n d)) (same-quotient n (gcd n d) m (gcd m e) g h (numerators n d m e (gcd n d) (gcd m e) other same is))
    ∙ ap (λ (z : ℕ). terms_text (m / gcd m e) z) (same-quotient d (gcd n d) e (gcd m e) g h (sym is))

size : (z : ℤ) → pos 0 ≤ℤ z → pos (unsigned_abs z) ≡ z
size z h = omega (arith, ints, h)

cross-products : (s t : Fraction) → pos 0 ≤ℤ s.num → pos 0 ≤ℤ t.num → IsTrue (fraction_eq s t) → unsigned_abs s.num * t.den ≡ unsigned_abs t.num * s.den
cross-products s t h k same =
    plain (unsigned_abs s.num * t.den) (unsigned_abs t.num * s.den)
    (ap (λ (z : ℤ). z *ℤ pos t.den) (size s.num h) ∙ eq_from_test (s.num *ℤ pos t.den) (t.num *ℤ pos s.den) same ∙ sym (ap (λ (z : ℤ). z *ℤ pos s.den) (size t.num k)))
  where
    plain : (a b : ℕ) → pos a ≡ pos b → a ≡ b
    plain a b e = omega (arith, ints, e)

larger : (n d m e k : ℕ) → n * e ≡ m * d → n * k * e ≡ m * k * d
larger n d m e k same = around n k e ∙ ap (λ (z : ℕ). z * k) same ∙ sym (around m k d)
  where
    around : (n k e : ℕ) → n * k * e ≡ n * e * k
    around n k e = omega arith

pub equal_is_written_alike : EqualIsWrittenAlike
equal_is_written_alike s t i j h k same =
    let cross : unsigned_abs s.num * t.den ≡ unsigned_abs t.num * s.den = cross-products s t h k same in (
      ap (λ (n : ℕ). thousandths_text (root_of n)) (same-quotient (unsigned_abs s.num * 1000000) s.den (unsigned_abs t.num * 1000000) t.den i.positive j.positive (larger (unsigned_abs s.num) s.den (unsigned_abs t.num) t.den 1000000 cross)),
      alike (unsigned_abs s.num) s.den (unsigned_abs t.num) t.den i.positive j.positive cross,
    )
