-- Two numbers of one value have one form.
use Rattle.std.proofs.Common.{◌≡◌, ℕ, zero, suc, ◌+◌, ◌-◌, ◌*◌, ◌/◌, ◌%◌, ◌^◌, ◌<◌, ◌≤◌, ◌⊎◌, inl, inr, ℤ, pos, negsuc, neg_ℤ, true, false, ◌&&◌, not, refl, sym, ap, ◌∙◌, arith, true≢false}
use Rattle.std.specs.Prelude.{◌==◌, ◌||◌, nat_le}
use Rattle.std.proofs.Math.Nat.{mul-div_cancel, mul-mod_left, pow-suc}
use Rattle.std.proofs.lemmas.Bool.{cases_order, and_parts}
use Rattle.std.proofs.lemmas.Bool.Decides.{nat_tests}
use Rattle.std.proofs.lemmas.Nat.{pow-add}
use Rattle.sf_decimals.specs.declared.number.Number.{Number}
use Rattle.sf_decimals.specs.Decimals.{IsDecimal, fits_int, is_reduced, magnitude, places_max, scaled}
use Rattle.sf_decimals.proofs.Digits.{pow_some}

cancel : (a b k : ℕ) → 0 < k → a * k ≡ b * k → a ≡ b
cancel a b k some h = sym (mul-div_cancel a some) ∙ ap (λ x. x / k) h ∙ mul-div_cancel b some

three : (a b c : ℕ) → a * b * c ≡ a * (b * c)
three a b c = grind arith

ends_in_zero : (n j : ℕ) → n * 10 ^ suc j % 10 ≡ 0
ends_in_zero n j = ap (λ x. n * x % 10) (pow-suc 10 j) ∙ ap (λ x. x % 10) (sym (three n (10 ^ j) 10)) ∙ mul-mod_left (n * 10 ^ j) 10

split_pow : (p q : ℕ) → p < q → q ≤ 18 → 10 ^ (18 - p) ≡ 10 ^ (q - p) * 10 ^ (18 - q)
split_pow p q less few = let at : 18 - p ≡ (q - p) + (18 - q) = omega (arith, less, few) in ap (λ k. 10 ^ k) at ∙ pow-add 10 (q - p) (18 - q)

not_reduced : (q m : ℕ) → 0 < q → m % 10 ≡ 0 → is_reduced q m ≡ true → ⊥
not_reduced q m some zero_end h =
    let a : (q == 0) ≡ false = grind (arith, nat_tests) in
    let b : (m % 10 == 0) ≡ true = grind (arith, nat_tests) in
    true≢false (sym h ∙ (ap (λ x. x || not (m % 10 == 0)) a ∙ ap not b))

shorter : (n m p q : ℕ) → p < q → q ≤ 18 → is_reduced q m ≡ true → n * 10 ^ (18 - p) ≡ m * 10 ^ (18 - q) → ⊥
shorter n m p q less few reduced h =
    let regrouped : n * 10 ^ (q - p) * 10 ^ (18 - q) ≡ m * 10 ^ (18 - q) = three n (10 ^ (q - p)) (10 ^ (18 - q)) ∙ ap (λ x. n * x) (sym (split_pow p q less few)) ∙ h in
    let same : n * 10 ^ (q - p) ≡ m = cancel _ _ (10 ^ (18 - q)) (pow_some (18 - q)) regrouped in
    let more : q - p ≡ suc (q - p - 1) = omega (arith, less) in
    let zero_end : m % 10 ≡ 0 = ap (λ x. x % 10) (sym same ∙ ap (λ k. n * 10 ^ k) more) ∙ ends_in_zero n (q - p - 1) in
    not_reduced q m (omega (arith, less)) zero_end reduced

-- numbers without a sign that are one have one form
pub one_form : (n m p q : ℕ) → p ≤ 18 → q ≤ 18 → is_reduced p n ≡ true → is_reduced q m ≡ true → n * 10 ^ (18 - p) ≡ m * 10 ^ (18 - q) → (n ≡ m) × (p ≡ q)
one_form n m p q fewp fewq rp rq h = by (cases_order p q)
  where
    by : (p ≡ q) ⊎ ((p < q) ⊎ (q < p)) → (n ≡ m) × (p ≡ q)
    by (inl same) = (cancel n m (10 ^ (18 - p)) (pow_some (18 - p)) (h ∙ ap (λ k. m * 10 ^ (18 - k)) (sym same)), same)
    by (inr (inl below)) = absurd (shorter n m p q below fewq rq h)
    by (inr (inr above)) = absurd (shorter m n q p above fewp rp (sym h))

-- ---- with signs

negated : (x : ℕ) → magnitude (neg_ℤ (pos x)) ≡ x
negated zero = refl
negated (suc x) = refl

not_negated : (x y : ℕ) → 0 < y → pos x ≡ neg_ℤ (pos y) → ⊥
not_negated x zero some h = absurd (omega (arith, some))
not_negated x (suc y) some h = cc

some_times : (n k : ℕ) → 0 < k → 0 < suc n * k
some_times n k some = grind (arith, some)

le_from : (n m : ℕ) → nat_le n m ≡ true → n ≤ m
le_from n m h = grind (arith, nat_tests)

abbrev number : ℤ → ℕ → Number
number mantissa places = record { mantissa = mantissa; places = places }

record Form (mantissa : ℤ) (places : ℕ) : Type 0 where
  few : places ≤ 18
  reduced : is_reduced places (magnitude mantissa) ≡ true

form_of : (mantissa : ℤ) (places : ℕ) → IsDecimal (number mantissa places) → Form mantissa places
form_of mantissa places h =
    let outer = and_parts (fits_int mantissa && nat_le places places_max) (is_reduced places (magnitude mantissa)) h in
    let inner = and_parts (fits_int mantissa) (nat_le places places_max) outer.0 in
    record { few = le_from places 18 inner.1; reduced = outer.1 }

-- numbers that are one have one form
pub same_form : (a b : ℤ) (p q : ℕ) → IsDecimal (number a p) → IsDecimal (number b q) → scaled (number a p) ≡ scaled (number b q) → number a p ≡ number b q
same_form (pos n) (pos m) p q is js h =
    let f = form_of (pos n) p is in
    let g = form_of (pos m) q js in
    let found = one_form n m p q f.few g.few f.reduced g.reduced (ap magnitude h) in
    ap (λ (x : ℕ). number (pos x) p) found.0 ∙ ap (λ (x : ℕ). number (pos m) x) found.1
same_form (negsuc n) (negsuc m) p q is js h =
    let f = form_of (negsuc n) p is in
    let g = form_of (negsuc m) q js in
    let found = one_form (suc n) (suc m) p q f.few g.few f.reduced g.reduced (sym (negated (suc n * 10 ^ (18 - p))) ∙ ap magnitude h ∙ negated (suc m * 10 ^ (18 - q))) in
    let equal = found.0 in
    let same : n ≡ m = omega (arith, equal) in
    ap (λ (x : ℕ). number (negsuc x) p) same ∙ ap (λ (x : ℕ). number (negsuc m) x) found.1
same_form (pos n) (negsuc m) p q is js h = absurd (not_negated (n * 10 ^ (18 - p)) (suc m * 10 ^ (18 - q)) (some_times m (10 ^ (18 - q)) (pow_some (18 - q))) h)
same_form (negsuc n) (pos m) p q is js h = absurd (not_negated (m * 10 ^ (18 - q)) (suc n * 10 ^ (18 - p)) (some_times n (10 ^ (18 - p)) (pow_some (18 - p))) (sym h))
