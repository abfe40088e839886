-- What is read is in its one form.
use Rattle.std.proofs.Common.{◌≡◌, ◌≢◌, ℕ, zero, suc, ◌+◌, ◌-◌, ◌*◌, ◌%◌, ◌<◌, ◌≤◌, ◌⊎◌, inl, inr, Bool, true, false, not, ◌&&◌, List, [], ◌∷◌, ◌++◌, length, take, drop, Option, None, Some, refl, sym, ap, subst, ◌∙◌, arith}
use Rattle.std.specs.Prelude.{◌==◌, ◌||◌, if◌then◌else◌, nat_lt, nat_le}
use Rattle.std.specs.Char.{is_ascii_digit}
use Rattle.std.specs.List.{list_all, prefix_len}
use Rattle.std.proofs.lemmas.Bool.{and_parts, and_from}
use Rattle.std.proofs.lemmas.Bool.Decides.{nat_tests}
use Rattle.sf_decimals.specs.declared.number.Number.{Number}
use Rattle.sf_decimals.specs.Decimals.{places_max, magnitude, signed, fits_int, is_reduced, IsDecimal, read_on, sign_len, is_negative, fraction_of, kept, kept_before, number_of, number_with, decimal_spelled}
use Rattle.sf_decimals.proofs.Digits.{read_on-append}

-- what is left of digits, if anything, ends in a digit that is no zero
record EndsOpen (ds : List ℕ) : Type 0 where
  front : List ℕ
  last : ℕ
  whole : ds ≡ front ++ last ∷ []
  above : 48 < last
  below : last ≤ 57

before_more : (d e : ℕ) (front : List ℕ) → kept_before d (front ++ e ∷ []) ≡ d ∷ front ++ e ∷ []
before_more d e [] = refl
before_more d e (x ∷ xs) = refl

digit_bounds : (d : ℕ) → is_ascii_digit d ≡ true → (d == 48) ≡ false → (48 < d) × (d ≤ 57)
digit_bounds d is other = (grind (arith, nat_tests), grind (arith, nat_tests))

kept_shape : (ds : List ℕ) → list_all is_ascii_digit ds ≡ true → (kept ds ≡ []) ⊎ EndsOpen (kept ds)
kept_shape [] all = inl refl
kept_shape (d ∷ ds) all = by (kept_shape ds both.1) (d == 48) refl
  where
    both : (is_ascii_digit d ≡ true) × (list_all is_ascii_digit ds ≡ true)
    both = and_parts (is_ascii_digit d) (list_all is_ascii_digit ds) all

    by : (kept ds ≡ []) ⊎ EndsOpen (kept ds) → (x : Bool) → (d == 48) ≡ x → (kept (d ∷ ds) ≡ []) ⊎ EndsOpen (kept (d ∷ ds))
    by (inl none) true is = inl (ap (kept_before d) none ∙ ap (λ x. if x then [] else d ∷ []) is)
    by (inl none) false is =
        let bounds = digit_bounds d both.0 is in
        inr (record { front = []; last = d; whole = ap (kept_before d) none ∙ ap (λ x. if x then [] else d ∷ []) is; above = bounds.0; below = bounds.1 })
    by (inr open_at) x is =
        inr (record { front = d ∷ open_at.front; last = open_at.last; whole = ap (kept_before d) open_at.whole ∙ before_more d open_at.last open_at.front; above = open_at.above; below = open_at.below })

last_number : (n d : ℕ) → 48 < d → d ≤ 57 → (10 * n + (d - 48)) % 10 ≢ 0
last_number n d above below is = omega (arith, above, below, is)

not_zero : (n : ℕ) → n % 10 ≢ 0 → not (n % 10 == 0) ≡ true
not_zero n h = grind (arith, nat_tests)

reduced_by : (n len : ℕ) → n % 10 ≢ 0 → is_reduced len n ≡ true
reduced_by n len h = by (len == 0) refl
  where
    by : (x : Bool) → (len == 0) ≡ x → (len == 0 || not (n % 10 == 0)) ≡ true
    by true is = ap (λ x. x || not (n % 10 == 0)) is
    by false is = ap (λ x. x || not (n % 10 == 0)) is ∙ not_zero n h

reduced : (from : ℕ) (ds : List ℕ) → (ds ≡ []) ⊎ EndsOpen ds → is_reduced (length ds) (read_on from ds) ≡ true
reduced from ds (inl none) = ap (λ (xs : List ℕ). is_reduced (length xs) (read_on from xs)) none
reduced from ds (inr open_at) =
    let value : read_on from ds ≡ 10 * read_on from open_at.front + (open_at.last - 48) = ap (read_on from) open_at.whole ∙ read_on-append from open_at.front (open_at.last ∷ []) in
    reduced_by (read_on from ds) (length ds) (λ h. last_number (read_on from open_at.front) open_at.last open_at.above open_at.below (ap (λ x. x % 10) (sym value) ∙ h))

magnitude_signed : (negative : Bool) (n : ℕ) → magnitude (signed negative n) ≡ n
magnitude_signed false n = refl
magnitude_signed true zero = refl
magnitude_signed true (suc n) = refl

chosen : {A : Type 0} (b : Bool) (x y : A) → (if b then Some x else None) ≡ Some y → (b ≡ true) × (x ≡ y)
chosen true x y h = (refl, cc)
chosen false x y h = absurd cc

fraction_digits : (rest ds : List ℕ) → fraction_of rest ≡ Some ds → list_all is_ascii_digit ds ≡ true
fraction_digits [] ds h = let none : [] ≡ ds = cc in ap (list_all is_ascii_digit) (sym none)
fraction_digits (b ∷ digits) ds h =
    let found = chosen (b == 46 && nat_lt 0 (length digits) && list_all is_ascii_digit digits) digits ds h in
    ap (list_all is_ascii_digit) (sym found.1) ∙ (and_parts (b == 46 && nat_lt 0 (length digits)) (list_all is_ascii_digit digits) found.0).1

number_reduced : (negative : Bool) (whole ds : List ℕ) (d : Number) → (ds ≡ []) ⊎ EndsOpen ds → number_of negative whole ds ≡ Some d → IsDecimal d
number_reduced negative whole ds d shape h =
    let n : ℕ = read_on (read_on 0 whole) ds in
    let found = chosen (nat_lt 0 (length whole) && nat_le (length ds) places_max && fits_int (signed negative (read_on (read_on 0 whole) ds))) (record { mantissa = signed negative (read_on (read_on 0 whole) ds); places = length ds }) d h in
    let outer = and_parts (nat_lt 0 (length whole) && nat_le (length ds) places_max) (fits_int (signed negative (read_on (read_on 0 whole) ds))) found.0 in
    let inner = and_parts (nat_lt 0 (length whole)) (nat_le (length ds) places_max) outer.0 in
    let form : is_reduced (length ds) (magnitude (signed negative (read_on (read_on 0 whole) ds))) ≡ true = ap (is_reduced (length ds)) (magnitude_signed negative (read_on (read_on 0 whole) ds)) ∙ reduced (read_on 0 whole) ds shape in
    subst IsDecimal found.1 (and_from _ _ (and_from _ _ outer.1 inner.1) form)

with_reduced : (negative : Bool) (whole rest : List ℕ) (f : Option (List ℕ)) (d : Number) → fraction_of rest ≡ f → number_with negative whole f ≡ Some d → IsDecimal d
with_reduced negative whole rest None d is h = absurd cc
with_reduced negative whole rest (Some ds) d is h = number_reduced negative whole (kept ds) d (kept_shape ds (fraction_digits rest ds is)) h

-- a number that a text spells is in its one form
pub spelled_reduced : (text : List ℕ) (d : Number) → decimal_spelled text ≡ Some d → IsDecimal d
spelled_reduced text d h =
    let unsigned : List ℕ = drop (sign_len text) text in
    let len : ℕ = prefix_len is_ascii_digit (drop (sign_len text) text) in
    with_reduced (is_negative text) (take (prefix_len is_ascii_digit (drop (sign_len text) text)) (drop (sign_len text) text)) (drop (prefix_len is_ascii_digit (drop (sign_len text) text)) (drop (sign_len text) text)) _ d refl h
