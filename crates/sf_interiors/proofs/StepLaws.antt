-- Numbers over a finer denominator with a small step added: how they compare with those before.
use Rattle.std.proofs.Common.{◌≡◌, ◌≢◌, ℕ, ◌<◌, arith, refl, ap, ℤ, pos, ◌+ℤ◌, ◌*ℤ◌, ◌<ℤ◌, ◌≤ℤ◌, unsigned_abs, [], ◌∷◌}
use Rattle.std.specs.Prelude.{int_le, int_lt}
use Rattle.std.proofs.lemmas.Int.{by_lt_z, ints}
use Rattle.sf_grid.proofs.CallerLemmas.{le_from_test, lt_from_test, mul, mul_le, num, ring, same_tests, sum, test_from_le, test_from_lt, var}

step_over : (a b : ℤ) (k : ℕ) → a <ℤ b → (a *ℤ pos k +ℤ pos k) ≤ℤ (b *ℤ pos k)
step_over a b k h =
    let n : (a +ℤ pos 1) ≤ℤ b = omega (arith, ints) in
    let m : ((a +ℤ pos 1) *ℤ pos k) ≤ℤ (b *ℤ pos k) = mul_le (a +ℤ pos 1) b k n in
    let e : (a +ℤ pos 1) *ℤ pos k ≡ a *ℤ pos k +ℤ pos k = ring (a ∷ pos k ∷ []) (mul (sum (var 0) (num (pos 1))) (var 1)) (sum (mul (var 0) (var 1)) (var 1)) refl in
    omega (arith, ints)

-- ---- a step smaller than the factor turns no order
pub keeps_lt : (s x i : ℤ) (k : ℕ) → unsigned_abs i < k → s <ℤ x → (s *ℤ pos k) <ℤ (x *ℤ pos k +ℤ i)
keeps_lt s x i k h l = let m = step_over s x k l in omega (arith, ints)

pub keeps_gt : (s x i : ℤ) (k : ℕ) → unsigned_abs i < k → x <ℤ s → (x *ℤ pos k +ℤ i) <ℤ (s *ℤ pos k)
keeps_gt s x i k h l = let m = step_over x s k l in omega (arith, ints)

pub le_back : (s x i : ℤ) (k : ℕ) → unsigned_abs i < k → (s *ℤ pos k) ≤ℤ (x *ℤ pos k +ℤ i) → s ≤ℤ x
le_back s x i k h l = by_lt_z x s (λ m. let g = keeps_gt s x i k h m in absurd (omega (arith, ints))) (λ m. m)

pub ge_back : (s x i : ℤ) (k : ℕ) → unsigned_abs i < k → (x *ℤ pos k +ℤ i) ≤ℤ (s *ℤ pos k) → x ≤ℤ s
ge_back s x i k h l = by_lt_z s x (λ m. let g = keeps_lt s x i k h m in absurd (omega (arith, ints))) (λ m. m)

same_product : (s x : ℤ) (k : ℕ) → s ≡ x → s *ℤ pos k ≡ x *ℤ pos k
same_product s x k e = ap (λ z. z *ℤ pos k) e

-- a step that isn't 0 leads off each such number
pub not_level : (s x i : ℤ) (k : ℕ) → unsigned_abs i < k → i ≢ pos 0 → s *ℤ pos k ≡ x *ℤ pos k +ℤ i → ⊥
not_level s x i k h n e =
    let f : s ≤ℤ x = le_back s x i k h (omega (arith, ints)) in
    let g : x ≤ℤ s = ge_back s x i k h (omega (arith, ints)) in
    let m : s *ℤ pos k ≡ x *ℤ pos k = same_product s x k (omega (arith, ints)) in
    n (omega (arith, ints))

-- whichever factor above it
pub le_again : (s x i : ℤ) (k l : ℕ) → unsigned_abs i < k → unsigned_abs i < l → (s *ℤ pos k) ≤ℤ (x *ℤ pos k +ℤ i) → (s *ℤ pos l) ≤ℤ (x *ℤ pos l +ℤ i)
le_again s x i k l h g m =
    let f : s ≤ℤ x = le_back s x i k h m in
    by_lt_z s x
    (λ n. let o = keeps_lt s x i l g n in omega (arith, ints))
    (λ n.
    let o : s *ℤ pos k ≡ x *ℤ pos k = same_product s x k (omega (arith, ints)) in
    let r : s *ℤ pos l ≡ x *ℤ pos l = same_product s x l (omega (arith, ints)) in
    omega (arith, ints))

pub ge_again : (s x i : ℤ) (k l : ℕ) → unsigned_abs i < k → unsigned_abs i < l → (x *ℤ pos k +ℤ i) ≤ℤ (s *ℤ pos k) → (x *ℤ pos l +ℤ i) ≤ℤ (s *ℤ pos l)
ge_again s x i k l h g m =
    let f : x ≤ℤ s = ge_back s x i k h m in
    by_lt_z x s
    (λ n. let o = keeps_gt s x i l g n in omega (arith, ints))
    (λ n.
    let o : s *ℤ pos k ≡ x *ℤ pos k = same_product s x k (omega (arith, ints)) in
    let r : s *ℤ pos l ≡ x *ℤ pos l = same_product s x l (omega (arith, ints)) in
    omega (arith, ints))

pub zero_back : (c g : ℤ) (k : ℕ) → unsigned_abs g < k → c *ℤ pos k +ℤ g ≡ pos 0 → c ≡ pos 0
zero_back c g k h e =
    let none : pos 0 *ℤ pos k ≡ pos 0 = omega (arith, ints) in
    let f : pos 0 ≤ℤ c = le_back (pos 0) c g k h (omega (arith, ints)) in
    let m : c ≤ℤ pos 0 = ge_back (pos 0) c g k h (omega (arith, ints)) in
    omega (arith, ints)

pub zero_again : (c g : ℤ) (k l : ℕ) → unsigned_abs g < k → c *ℤ pos k +ℤ g ≡ pos 0 → c *ℤ pos l +ℤ g ≡ pos 0
zero_again c g k l h e =
    let f : c ≡ pos 0 = zero_back c g k h e in
    let m : c *ℤ pos k ≡ pos 0 *ℤ pos k = same_product c (pos 0) k f in
    let n : c *ℤ pos l ≡ pos 0 *ℤ pos l = same_product c (pos 0) l f in
    omega (arith, ints)

-- ---- the tests, after a step to the right and after one to the left
pub le_right : (s x i : ℤ) (k : ℕ) → unsigned_abs i < k → pos 0 ≤ℤ i → int_le (s *ℤ pos k) (x *ℤ pos k +ℤ i) ≡ int_le s x
le_right s x i k h n =
    same_tests _ _
    (λ t. test_from_le s x (le_back s x i k h (le_from_test (s *ℤ pos k) (x *ℤ pos k +ℤ i) t)))
    (λ t. test_from_le (s *ℤ pos k) (x *ℤ pos k +ℤ i) (more (s *ℤ pos k) (x *ℤ pos k) (mul_le s x k (le_from_test s x t))))
  where
    more : (a b : ℤ) → a ≤ℤ b → a ≤ℤ (b +ℤ i)
    more a b l = omega (arith, ints)

pub lt_right : (s x i : ℤ) (k : ℕ) → unsigned_abs i < k → pos 0 ≤ℤ i → int_lt (x *ℤ pos k +ℤ i) (s *ℤ pos k) ≡ int_lt x s
lt_right s x i k h n =
    same_tests _ _
    (λ t. test_from_lt x s (by_lt_z x s (λ m. m) (λ m. absurd (less (x *ℤ pos k) (s *ℤ pos k) (lt_from_test (x *ℤ pos k +ℤ i) (s *ℤ pos k) t) (mul_le s x k m)))))
    (λ t. test_from_lt (x *ℤ pos k +ℤ i) (s *ℤ pos k) (keeps_gt s x i k h (lt_from_test x s t)))
  where
    less : (a b : ℤ) → (a +ℤ i) <ℤ b → b ≤ℤ a → ⊥
    less a b l m = omega (arith, ints)

pub le_left : (s x i : ℤ) (k : ℕ) → unsigned_abs i < k → i <ℤ pos 0 → int_le (s *ℤ pos k) (x *ℤ pos k +ℤ i) ≡ int_lt s x
le_left s x i k h n =
    same_tests _ _
    (λ t. test_from_lt s x (by_lt_z s x (λ m. m) (λ m. absurd (less (s *ℤ pos k) (x *ℤ pos k) (le_from_test (s *ℤ pos k) (x *ℤ pos k +ℤ i) t) (mul_le x s k m)))))
    (λ t. test_from_le (s *ℤ pos k) (x *ℤ pos k +ℤ i) (weak (s *ℤ pos k) (x *ℤ pos k +ℤ i) (keeps_lt s x i k h (lt_from_test s x t))))
  where
    less : (a b : ℤ) → a ≤ℤ (b +ℤ i) → b ≤ℤ a → ⊥
    less a b l m = omega (arith, ints)

    weak : (a b : ℤ) → a <ℤ b → a ≤ℤ b
    weak a b l = omega (arith, ints)

pub lt_left : (s x i : ℤ) (k : ℕ) → unsigned_abs i < k → i <ℤ pos 0 → int_lt (x *ℤ pos k +ℤ i) (s *ℤ pos k) ≡ int_le x s
lt_left s x i k h n =
    same_tests _ _
    (λ t. test_from_le x s (ge_back s x i k h (weak (x *ℤ pos k +ℤ i) (s *ℤ pos k) (lt_from_test (x *ℤ pos k +ℤ i) (s *ℤ pos k) t))))
    (λ t. test_from_lt (x *ℤ pos k +ℤ i) (s *ℤ pos k) (more (x *ℤ pos k) (s *ℤ pos k) (mul_le x s k (le_from_test x s t))))
  where
    weak : (a b : ℤ) → a <ℤ b → a ≤ℤ b
    weak a b l = omega (arith, ints)

    more : (a b : ℤ) → a ≤ℤ b → (a +ℤ i) <ℤ b
    more a b l = omega (arith, ints)

-- a number that isn't 0 keeps its sign
pub sign_kept : (c g : ℤ) (k : ℕ) → unsigned_abs g < k → c ≢ pos 0 → int_lt (c *ℤ pos k +ℤ g) (pos 0) ≡ int_lt c (pos 0)
sign_kept c g k h n =
    same_tests _ _
    (λ t. test_from_lt c (pos 0) (by_lt_z c (pos 0) (λ m. m) (λ m. absurd (above (c *ℤ pos k) (pos 0 *ℤ pos k) none (lt_from_test (c *ℤ pos k +ℤ g) (pos 0) t) (keeps_lt (pos 0) c g k h (positive m))))))
    (λ t. test_from_lt (c *ℤ pos k +ℤ g) (pos 0) (below (c *ℤ pos k) (pos 0 *ℤ pos k) none (keeps_gt (pos 0) c g k h (lt_from_test c (pos 0) t))))
  where
    none : pos 0 *ℤ pos k ≡ pos 0
    none = omega (arith, ints)

    positive : pos 0 ≤ℤ c → pos 0 <ℤ c
    positive m = by_lt_z (pos 0) c (λ l. l) (λ l. absurd (n (omega (arith, ints))))

    above : (a b : ℤ) → b ≡ pos 0 → (a +ℤ g) <ℤ pos 0 → b <ℤ (a +ℤ g) → ⊥
    above a b e l m = omega (arith, ints)

    below : (a b : ℤ) → b ≡ pos 0 → (a +ℤ g) <ℤ b → (a +ℤ g) <ℤ pos 0
    below a b e l = omega (arith, ints)
