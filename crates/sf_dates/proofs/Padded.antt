-- What a hole with a width and zeros writes.
use Rattle.std.proofs.Common.{◌≡◌, ℕ, ◌+◌, ◌-◌, ◌/◌, ◌%◌, ◌^◌, ◌<◌, ◌≤◌, ◌⊎◌, inl, inr, false, List, [], ◌∷◌, ◌++◌, sym, ap, ◌∙◌, arith}
use Rattle.std.specs.Fmt.{decimal, styled_decimal, padded_integral, format_spec, char_count}
use Rattle.std.proofs.lemmas.Bool.{cases_order}
use Rattle.std.proofs.lemmas.Fmt.{decimal_digit, decimal_step}
use Rattle.sf_dates.specs.Texts.{two_digits, three_digits, four_digits}

below : (n m : ℕ) → (n < m) ⊎ (m ≤ n)
below n m = by (cases_order n m)
  where
    by : (n ≡ m) ⊎ ((n < m) ⊎ (m < n)) → (n < m) ⊎ (m ≤ n)
    by (inl same) = inr (omega (arith, same))
    by (inr (inl less)) = inl less
    by (inr (inr more)) = inr (omega (arith, more))

-- a number by its digits
two_of : (n : ℕ) → 10 ≤ n → n < 100 → decimal n ≡ (48 + n / 10) ∷ (48 + n % 10) ∷ []
two_of n large small = decimal_step n large (omega (arith, small)) ∙ ap (λ ds. ds ++ (48 + n % 10) ∷ []) (decimal_digit (n / 10) (omega (arith, small)))

three_of : (n : ℕ) → 100 ≤ n → n < 1000 → decimal n ≡ (48 + n / 10 / 10) ∷ (48 + n / 10 % 10) ∷ (48 + n % 10) ∷ []
three_of n large small =
    decimal_step n (omega (arith, large)) (omega (arith, small)) ∙ ap (λ ds. ds ++ (48 + n % 10) ∷ []) (two_of (n / 10) (omega (arith, large)) (omega (arith, small)))

four_of : (n : ℕ) → 1000 ≤ n → n < 10000 → decimal n ≡ (48 + n / 10 / 10 / 10) ∷ (48 + n / 10 / 10 % 10) ∷ (48 + n / 10 % 10) ∷ (48 + n % 10) ∷ []
four_of n large small =
    decimal_step n (omega (arith, large)) (omega (arith, small)) ∙ ap (λ ds. ds ++ (48 + n % 10) ∷ []) (three_of (n / 10) (omega (arith, large)) (omega (arith, small)))

-- the digits of a number with zeros before them
two_are : (n a b : ℕ) → n / 10 ≡ a → n % 10 ≡ b → (48 + a) ∷ (48 + b) ∷ [] ≡ two_digits n
two_are n a b ha hb = λ i. (48 + sym ha i) ∷ (48 + sym hb i) ∷ []

three_are : (n a b c : ℕ) → n / 100 ≡ a → n % 100 / 10 ≡ b → n % 100 % 10 ≡ c → (48 + a) ∷ (48 + b) ∷ (48 + c) ∷ [] ≡ three_digits n
three_are n a b c ha hb hc = λ i. (48 + sym ha i) ∷ (48 + sym hb i) ∷ (48 + sym hc i) ∷ []

four_are : (n a b c d : ℕ) → n / 100 / 10 ≡ a → n / 100 % 10 ≡ b → n % 100 / 10 ≡ c → n % 100 % 10 ≡ d → (48 + a) ∷ (48 + b) ∷ (48 + c) ∷ (48 + d) ∷ [] ≡ four_digits n
four_are n a b c d ha hb hc hd = λ i. (48 + sym ha i) ∷ (48 + sym hb i) ∷ (48 + sym hc i) ∷ (48 + sym hd i) ∷ []

-- what such a hole writes of a number with this text
abbrev zeros : ℕ → List ℕ → List ℕ
zeros width text = padded_integral (format_spec 32 0 4 width (2 ^ 64 - 1)) false [] text

pub two_padded : (n : ℕ) → n < 100 → styled_decimal (format_spec 32 0 4 2 (2 ^ 64 - 1)) n ≡ two_digits n
unfolding padded_integral char_count
two_padded n small = by (below n 10)
  where
    by : (n < 10) ⊎ (10 ≤ n) → zeros 2 (decimal n) ≡ two_digits n
    by (inl one) = ap (zeros 2) (decimal_digit n one) ∙ two_are n 0 n (omega (arith, one)) (omega (arith, one))
    by (inr more) = ap (zeros 2) (two_of n more small)

pub three_padded : (n : ℕ) → n < 1000 → styled_decimal (format_spec 32 0 4 3 (2 ^ 64 - 1)) n ≡ three_digits n
unfolding padded_integral char_count
three_padded n small = by (below n 10) (below n 100)
  where
    by : (n < 10) ⊎ (10 ≤ n) → (n < 100) ⊎ (100 ≤ n) → zeros 3 (decimal n) ≡ three_digits n
    by (inl one) few = ap (zeros 3) (decimal_digit n one) ∙ three_are n 0 0 n (omega (arith, one)) (omega (arith, one)) (omega (arith, one))
    by (inr more) (inl few) = ap (zeros 3) (two_of n more few) ∙ three_are n 0 (n / 10) (n % 10) (omega (arith, few)) (omega (arith, few)) (omega (arith, few))
    by (inr more) (inr many) = ap (zeros 3) (three_of n many small) ∙ three_are n (n / 10 / 10) (n / 10 % 10) (n % 10) (omega arith) (omega arith) (omega arith)

pub four_padded : (n : ℕ) → n < 10000 → styled_decimal (format_spec 32 0 4 4 (2 ^ 64 - 1)) n ≡ four_digits n
unfolding padded_integral char_count
four_padded n small = by (below n 10) (below n 100) (below n 1000)
  where
    by : (n < 10) ⊎ (10 ≤ n) → (n < 100) ⊎ (100 ≤ n) → (n < 1000) ⊎ (1000 ≤ n) → zeros 4 (decimal n) ≡ four_digits n
    by (inl one) few some = ap (zeros 4) (decimal_digit n one) ∙ four_are n 0 0 0 n (omega (arith, one)) (omega (arith, one)) (omega (arith, one)) (omega (arith, one))
    by (inr more) (inl few) some = ap (zeros 4) (two_of n more few) ∙ four_are n 0 0 (n / 10) (n % 10) (omega (arith, few)) (omega (arith, few)) (omega (arith, few)) (omega (arith, few))
    by (inr more) (inr many) (inl some) =
        ap (zeros 4) (three_of n many some) ∙ four_are n 0 (n / 10 / 10) (n / 10 % 10) (n % 10) (omega (arith, some)) (omega (arith, some)) (omega arith) (omega arith)
    by (inr more) (inr many) (inr most) =
        ap (zeros 4) (four_of n most small) ∙ four_are n (n / 10 / 10 / 10) (n / 10 / 10 % 10) (n / 10 % 10) (n % 10) (omega arith) (omega arith) (omega arith) (omega arith)
