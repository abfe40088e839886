-- The order of features by their distances, and then by their identifiers.
use Rattle.std.proofs.Common.{◌≡◌, ◌⊎◌, inl, inr, sym, ℕ, ◌<◌, ◌≤◌, ℤ, pos, ◌*ℤ◌, ◌≤ℤ◌, ◌<ℤ◌, true, false, ◌&&◌, arith, ⊎_elim, IsTrue}
use Rattle.std.specs.Prelude.{nat_lt}
use Rattle.std.proofs.lemmas.Bool.{and_from, and_parts, both_ways, cases_order, false_from_ne_true, or_cases, or_left, or_right}
use Rattle.std.proofs.lemmas.Bool.Decides.{nat_tests}
use Rattle.std.proofs.lemmas.Int.{ints, by_lt_z}
use Rattle.sf_grid.specs.Fraction.{Fraction, IsFraction, fraction_eq, fraction_le, fraction_lt}
use Rattle.sf_grid.proofs.FractionLaws.{le, le-trans}
use Rattle.sf_grid.proofs.NumberTests.{eq_from_test, lt_from_test, test_from_eq, test_from_le, test_from_lt, le_from_test}
use Rattle.sf_grid.proofs.OrderLaws.{le_lt, lt_le}
use Rattle.sf_near.specs.Nearest.{is_nearer}

-- ---- numbers

abbrev Lt : Fraction → Fraction → Type 0
Lt a b = (a.num *ℤ pos b.den) <ℤ (b.num *ℤ pos a.den)

abbrev Eq : Fraction → Fraction → Type 0
Eq a b = (a.num *ℤ pos b.den) ≡ (b.num *ℤ pos a.den)

most : (x y : ℤ) → x ≡ y → x ≤ℤ y
most x y e = omega (arith, ints)

below : (x y : ℤ) → x <ℤ y → x ≤ℤ y
below x y l = omega (arith, ints)

one : (x y : ℤ) → x ≤ℤ y → y ≤ℤ x → x ≡ y
one x y h k = omega (arith, ints)

eq-trans : (a b c : Fraction) → IsFraction b → Eq a b → Eq b c → Eq a c
eq-trans a b c f h k =
    one (a.num *ℤ pos c.den) (c.num *ℤ pos a.den)
    (le-trans a b c f (most _ _ h) (most _ _ k)) (le-trans c b a f (most _ _ (sym k)) (most _ _ (sym h)))

lt-eq : (a b c : Fraction) → IsFraction a → IsFraction b → IsFraction c → Lt a b → Eq b c → Lt a c
lt-eq a b c f g h l e = lt_le a b c f g h l (most (b.num *ℤ pos c.den) (c.num *ℤ pos b.den) e)

eq-lt : (a b c : Fraction) → IsFraction a → IsFraction b → IsFraction c → Eq a b → Lt b c → Lt a c
eq-lt a b c f g h e l = le_lt a b c f g h (most (a.num *ℤ pos b.den) (b.num *ℤ pos a.den) e) l

-- ---- which of two features is nearer

abbrev pub Feature : Type 0
Feature = ℕ × Fraction

abbrev pub IsGood : Feature → Type 0
IsGood p = IsFraction p.1

abbrev IsNearer : Feature → Feature → Type 0
IsNearer p q = Lt p.1 q.1 ⊎ (Eq p.1 q.1 × (p.0 < q.0))

-- q does not come before p
abbrev IsBehind : Feature → Feature → Type 0
IsBehind p q = Lt p.1 q.1 ⊎ (Eq p.1 q.1 × (p.0 ≤ q.0))

less : (m n : ℕ) → nat_lt m n ≡ true → m < n
less m n h = grind (arith, nat_tests)

is_less : (m n : ℕ) → m < n → nat_lt m n ≡ true
is_less m n h = grind (arith, nat_tests)

nearer-cases : (p q : Feature) → is_nearer p q ≡ true → IsNearer p q
nearer-cases p q h = ⊎_elim {C = IsNearer p q}
    (λ l. inl (lt_from_test _ _ l))
    (λ both. let parts = and_parts (fraction_eq p.1 q.1) (nat_lt p.0 q.0) both in inr (eq_from_test _ _ parts.0, less p.0 q.0 parts.1))
    (or_cases (fraction_lt p.1 q.1) (fraction_eq p.1 q.1 && nat_lt p.0 q.0) h)

nearer-from : (p q : Feature) → IsNearer p q → is_nearer p q ≡ true
nearer-from p q (inl l) = or_left (fraction_lt p.1 q.1) (fraction_eq p.1 q.1 && nat_lt p.0 q.0) (test_from_lt _ _ l)
nearer-from p q (inr both) =
    or_right (fraction_lt p.1 q.1) (fraction_eq p.1 q.1 && nat_lt p.0 q.0) (and_from (fraction_eq p.1 q.1) (nat_lt p.0 q.0) (test_from_eq _ _ both.0) (is_less p.0 q.0 both.1))

no_loop : (x y : ℤ) (m n : ℕ) → (x <ℤ y) ⊎ ((x ≡ y) × (m < n)) → (y <ℤ x) ⊎ ((y ≡ x) × (n ≤ m)) → ⊥
no_loop x y m n (inl l) (inl k) = omega (arith, ints)
no_loop x y m n (inl l) (inr k) = let e = k.0 in omega (arith, ints)
no_loop x y m n (inr l) (inl k) = let e = l.0 in omega (arith, ints)
no_loop x y m n (inr l) (inr k) = let h = l.1 in let g = k.1 in omega arith

sides : (x y : ℤ) (m n : ℕ) → ((y <ℤ x) ⊎ ((y ≡ x) × (n < m)) → ⊥) → (x <ℤ y) ⊎ ((x ≡ y) × (m ≤ n))
sides x y m n other =
    by_lt_z x y (λ l. inl l)
    (λ l. by_lt_z y x (λ k. absurd (other (inl k)))
    (λ k. let e : x ≡ y = omega (arith, ints) in inr (e, not_less m n (λ h. other (inr (sym e, h))))))
  where
    not_less : (m n : ℕ) → (n < m → ⊥) → m ≤ n
    not_less m n h = by (cases_order m n)
      where
        by : (m ≡ n) ⊎ ((m < n) ⊎ (n < m)) → m ≤ n
        by (inl e) = omega (arith, e)
        by (inr (inl l)) = omega (arith, l)
        by (inr (inr l)) = absurd (h l)

behind-cases : (p q : Feature) → is_nearer q p ≡ false → IsBehind p q
behind-cases p q h = sides (p.1.num *ℤ pos q.1.den) (q.1.num *ℤ pos p.1.den) p.0 q.0 (λ n. both_ways (is_nearer q p) h (nearer-from q p n))

behind-from : (p q : Feature) → IsBehind p q → is_nearer q p ≡ false
behind-from p q b = false_from_ne_true (is_nearer q p) (λ h. no_loop (q.1.num *ℤ pos p.1.den) (p.1.num *ℤ pos q.1.den) q.0 p.0 (nearer-cases q p h) b)

-- what is nearer is not behind
pub one_way : (p q : Feature) → is_nearer p q ≡ true → is_nearer q p ≡ false
one_way p q h = behind-from p q (weaker (nearer-cases p q h))
  where
    weaker : IsNearer p q → IsBehind p q
    weaker (inl l) = inl l
    weaker (inr both) = let h = both.1 in inr (both.0, omega arith)

-- what is behind something that is behind another one is behind that
pub chain : (p q r : Feature) → IsGood p → IsGood q → IsGood r → is_nearer q p ≡ false → is_nearer r q ≡ false → is_nearer r p ≡ false
chain p q r f g h a b = behind-from p r (joined (behind-cases p q a) (behind-cases q r b))
  where
    joined : IsBehind p q → IsBehind q r → IsBehind p r
    joined (inl l) (inl k) = inl (lt_le p.1 q.1 r.1 f g h l (below (q.1.num *ℤ pos r.1.den) (r.1.num *ℤ pos q.1.den) k))
    joined (inl l) (inr k) = inl (lt-eq p.1 q.1 r.1 f g h l k.0)
    joined (inr l) (inl k) = inl (eq-lt p.1 q.1 r.1 f g h l.0 k)
    joined (inr l) (inr k) = let m = l.1 in let n = k.1 in inr (eq-trans p.1 q.1 r.1 g l.0 k.0, omega arith)

-- what is behind another feature is nearer than that only where it is itself
pub apart-nearer : (p q : Feature) → is_nearer q p ≡ false → p.0 < q.0 ⊎ q.0 < p.0 → is_nearer p q ≡ true
apart-nearer p q h apart = nearer-from p q (by (behind-cases p q h) apart)
  where
    by : IsBehind p q → p.0 < q.0 ⊎ q.0 < p.0 → IsNearer p q
    by (inl l) a = inl l
    by (inr both) (inl l) = inr (both.0, l)
    by (inr both) (inr l) = let k = both.1 in absurd (omega arith)

-- what is within a bound has all that is before it within the bound
pub within-before : (bound : Fraction) (p q : Feature) → IsGood p → IsGood q → is_nearer q p ≡ false → fraction_le q.1 bound ≡ true → fraction_le p.1 bound ≡ true
within-before bound p q f g h k = test_from_le _ _ (le-trans p.1 q.1 bound g (by (behind-cases p q h)) (le_from_test _ _ k))
  where
    by : IsBehind p q → le p.1 q.1
    by (inl l) = below (p.1.num *ℤ pos q.1.den) (q.1.num *ℤ pos p.1.den) l
    by (inr both) = most (p.1.num *ℤ pos q.1.den) (q.1.num *ℤ pos p.1.den) both.0

-- the same numbers in other terms
pub same-numbers : (p q p' q' : Feature) → IsGood p → IsGood q → IsGood p' → IsGood q' → p.0 ≡ p'.0 → q.0 ≡ q'.0
    → IsTrue (fraction_eq p.1 p'.1) → IsTrue (fraction_eq q.1 q'.1) → is_nearer p q ≡ true → is_nearer p' q' ≡ true
same-numbers p q p' q' f g f' g' i j e d h = nearer-from p' q' (by (nearer-cases p q h))
  where
    ep : Eq p.1 p'.1
    ep = eq_from_test _ _ e

    eq : Eq q.1 q'.1
    eq = eq_from_test _ _ d

    by : IsNearer p q → IsNearer p' q'
    by (inl l) = inl (eq-lt p'.1 p.1 q'.1 f' f g' (sym ep) (lt-eq p.1 q.1 q'.1 f g g' l eq))
    by (inr both) =
        let l = both.1 in
        inr (eq-trans p'.1 p.1 q'.1 f (sym ep) (eq-trans p.1 q.1 q'.1 g both.0 eq), omega (arith, i, j))
