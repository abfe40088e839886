-- Which numbers the digits of a text are, there and back.
use Rattle.std.proofs.Common.{◌≡◌, ℕ, ◌+◌, ◌-◌, ◌*◌, ◌/◌, ◌%◌, ◌<◌, ◌≤◌, Bool, true, false, ◌&&◌, [], ◌∷◌, ◌++◌, Option, None, Some, refl, ap, ◌∙◌, arith}
use Rattle.std.specs.Prelude.{option_map, nat_lt, nat_le, if◌then◌else◌}
use Rattle.std.specs.Char.{is_ascii_digit}
use Rattle.std.proofs.lemmas.Bool.{and_parts}
use Rattle.std.proofs.lemmas.Bool.Decides.{nat_tests}
use Rattle.sf_dates.specs.Texts.{two_digits, three_digits, four_digits, two, three, four, hundreds}

-- ---- tests

pub le_from : (n m : ℕ) → nat_le n m ≡ true → n ≤ m
le_from n m h = grind (arith, nat_tests)

pub lt_from : (n m : ℕ) → nat_lt n m ≡ true → n < m
lt_from n m h = grind (arith, nat_tests)

pub lt_true : (n m : ℕ) → n < m → nat_lt n m ≡ true
lt_true n m h = grind (arith, nat_tests)

-- what is chosen by a test that must have held
pub chosen : {A : Type 0} (b : Bool) (x : Option A) (y : A) → (if b then x else None) ≡ Some y → (b ≡ true) × (x ≡ Some y)
chosen true x y h = (refl, h)
chosen false x y h = absurd cc

pub some_is : {A : Type 0} (x y : A) → Some x ≡ Some y → x ≡ y
some_is x y h = cc

-- ---- digits read

ten_is_digit : (q : ℕ) → q < 10 → is_ascii_digit (48 + q) ≡ true
ten_is_digit q h = grind (arith, nat_tests)

pub two_read : (n : ℕ) → n < 100 → two (48 + n / 10) (48 + n % 10) ≡ Some n
two_read n small =
    ap (λ x. if x && is_ascii_digit (48 + n % 10) then Some (10 * (48 + n / 10 - 48) + (48 + n % 10 - 48)) else None) (ten_is_digit (n / 10) (omega (arith, small)))
    ∙ ap (λ x. if x then Some (10 * (48 + n / 10 - 48) + (48 + n % 10 - 48)) else None) (ten_is_digit (n % 10) (omega arith))
    ∙ ap Some (value n)
  where
    value : (n : ℕ) → 10 * (48 + n / 10 - 48) + (48 + n % 10 - 48) ≡ n
    value n = omega arith

pub three_read : (n : ℕ) → n < 1000 → three (48 + n / 100) (48 + n % 100 / 10) (48 + n % 100 % 10) ≡ Some n
three_read n small =
    ap (λ x. if x then option_map (λ m. 100 * (48 + n / 100 - 48) + m) (two (48 + n % 100 / 10) (48 + n % 100 % 10)) else None) (ten_is_digit (n / 100) (omega (arith, small)))
    ∙ ap (option_map (λ m. 100 * (48 + n / 100 - 48) + m)) (two_read (n % 100) (omega arith))
    ∙ ap Some (value n)
  where
    value : (n : ℕ) → 100 * (48 + n / 100 - 48) + n % 100 ≡ n
    value n = omega arith

pub four_read : (n : ℕ) → n < 10000 → four (48 + n / 100 / 10) (48 + n / 100 % 10) (48 + n % 100 / 10) (48 + n % 100 % 10) ≡ Some n
four_read n small =
    ap (λ x. hundreds x (two (48 + n % 100 / 10) (48 + n % 100 % 10))) (two_read (n / 100) (omega (arith, small)))
    ∙ ap (hundreds (Some (n / 100))) (two_read (n % 100) (omega arith))
    ∙ ap Some (value n)
  where
    value : (n : ℕ) → 100 * (n / 100) + n % 100 ≡ n
    value n = omega arith

-- ---- and back

record IsDigit (b : ℕ) : Type 0 where
  above : 48 ≤ b
  below : b ≤ 57

digit_from : (b : ℕ) → is_ascii_digit b ≡ true → IsDigit b
digit_from b h = record { above = grind (arith, nat_tests); below = grind (arith, nat_tests) }

tens : (a b n : ℕ) → IsDigit a → IsDigit b → 10 * (a - 48) + (b - 48) ≡ n → (n < 100) × (48 + n / 10 ≡ a) × (48 + n % 10 ≡ b)
tens a b n x y h =
    let a1 = x.above in let a2 = x.below in let b1 = y.above in let b2 = y.below in
    (omega (arith, a1, a2, b1, b2, h), omega (arith, a1, a2, b1, b2, h), omega (arith, a1, a2, b1, b2, h))

-- digits that are a number are its digits
pub two_back : (a b n : ℕ) → two a b ≡ Some n → (n < 100) × (two_digits n ≡ a ∷ b ∷ [])
two_back a b n h =
    let found = chosen (is_ascii_digit a && is_ascii_digit b) (Some (10 * (a - 48) + (b - 48))) n h in
    let digits = and_parts (is_ascii_digit a) (is_ascii_digit b) found.0 in
    let back = tens a b n (digit_from a digits.0) (digit_from b digits.1) (some_is _ n found.1) in
    (back.0, λ i. back.1 i ∷ back.2 i ∷ [])

record More (hundred n : ℕ) (rest : Option ℕ) : Type 0 where
  number : ℕ
  is : rest ≡ Some number
  whole : hundred + number ≡ n

more_back : (hundred n : ℕ) (rest : Option ℕ) → option_map (λ m. hundred + m) rest ≡ Some n → More hundred n rest
more_back hundred n None h = absurd cc
more_back hundred n (Some m) h = record { number = m; is = refl; whole = some_is _ n h }

third : (a n m : ℕ) → IsDigit a → m < 100 → 100 * (a - 48) + m ≡ n → (n < 1000) × (48 + n / 100 ≡ a) × (n % 100 ≡ m)
third a n m x small h =
    let a1 = x.above in let a2 = x.below in
    (omega (arith, a1, a2, small, h), omega (arith, a1, a2, small, h), omega (arith, a1, a2, small, h))

pub three_back : (a b c n : ℕ) → three a b c ≡ Some n → (n < 1000) × (three_digits n ≡ a ∷ b ∷ c ∷ [])
three_back a b c n h =
    let found = chosen (is_ascii_digit a) (option_map (λ m. 100 * (a - 48) + m) (two b c)) n h in
    let more = more_back (100 * (a - 48)) n (two b c) found.1 in
    let rest = two_back b c more.number more.is in
    let back = third a n more.number (digit_from a found.0) rest.0 more.whole in
    (back.0, (λ i. back.1 i ∷ two_digits (back.2 i)) ∙ ap (λ ds. a ∷ ds) rest.1)

record Both (n : ℕ) (p q : Option ℕ) : Type 0 where
  front : ℕ
  back : ℕ
  is_front : p ≡ Some front
  is_back : q ≡ Some back
  whole : 100 * front + back ≡ n

both_back : (n : ℕ) (p q : Option ℕ) → hundreds p q ≡ Some n → Both n p q
both_back n None q h = absurd cc
both_back n (Some m) None h = absurd cc
both_back n (Some m) (Some k) h = record { front = m; back = k; is_front = refl; is_back = refl; whole = some_is _ n h }

halves : (m k n : ℕ) → m < 100 → k < 100 → 100 * m + k ≡ n → (n < 10000) × (n / 100 ≡ m) × (n % 100 ≡ k)
halves m k n small few h = (omega (arith, small, few, h), omega (arith, small, few, h), omega (arith, small, few, h))

pub four_back : (a b c d n : ℕ) → four a b c d ≡ Some n → (n < 10000) × (four_digits n ≡ a ∷ b ∷ c ∷ d ∷ [])
four_back a b c d n h =
    let both = both_back n (two a b) (two c d) h in
    let front = two_back a b both.front both.is_front in
    let back = two_back c d both.back both.is_back in
    let at = halves both.front both.back n front.0 back.0 both.whole in
    (at.0, (λ i. two_digits (at.1 i) ++ two_digits (at.2 i)) ∙ (λ i. front.1 i ++ back.1 i))
