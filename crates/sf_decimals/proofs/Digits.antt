-- Digits read on, zeros at their end, and padded digits.
use Rattle.std.proofs.Common.{◌≡◌, ◌≢◌, ℕ, zero, suc, ◌+◌, ◌-◌, ◌*◌, ◌/◌, ◌%◌, ◌^◌, ◌<◌, ◌≤◌, Bool, true, false, ◌&&◌, List, [], ◌∷◌, ◌++◌, length, drop, get_or, drop-cons, Option, None, Some, refl, sym, ap, subst, ◌∙◌, arith}
use Rattle.std.specs.Prelude.{◌==◌, if◌then◌else◌, nat_lt, nat_le}
use Rattle.std.specs.Char.{is_ascii_digit}
use Rattle.std.specs.List.{list_all}
use Rattle.std.proofs.lemmas.Bool.{and_right}
use Rattle.std.proofs.lemmas.Int.{ints}
use Rattle.std.proofs.lemmas.List.{drop_all}
use Rattle.std.proofs.lemmas.Bool.Decides.{nat_tests}
use Rattle.std.proofs.lemmas.Nat.{div_below, mod_below, div-add-mod'}
use Rattle.std.proofs.Math.Nat.{one-le-pow, pow-suc}
use Rattle.sf_decimals.specs.Decimals.{read_on, kept, kept_before, padded, fits_int, signed, number_of, places_max}

-- ---- digits read on

pub read_on-append : (n : ℕ) (ds es : List ℕ) → read_on n (ds ++ es) ≡ read_on (read_on n ds) es
read_on-append n [] es = refl
read_on-append n (d ∷ ds) es = read_on-append (10 * n + (d - 48)) ds es

-- what was read is never less with more digits
pub read_on-le : (n : ℕ) (ds : List ℕ) → n ≤ read_on n ds
read_on-le n [] = omega arith
read_on-le n (d ∷ ds) = let more = read_on-le (10 * n + (d - 48)) ds in omega (arith, more)

-- ---- zeros at the end

kept_front : (d : ℕ) (ds : List ℕ) → (ds ≡ [] → (d == 48) ≡ false) → kept_before d ds ≡ d ∷ ds
kept_front d [] h = ap (λ x. if x then [] else d ∷ []) (h refl)
kept_front d (e ∷ ds) h = refl

-- a zero at the end is dropped
pub kept-zero : (ds : List ℕ) → kept (ds ++ 48 ∷ []) ≡ kept ds
kept-zero [] = refl
kept-zero (d ∷ ds) = ap (kept_before d) (kept-zero ds)

-- digits that end in none stay as they are
pub kept-other : (ds : List ℕ) (e : ℕ) → (e == 48) ≡ false → kept (ds ++ e ∷ []) ≡ ds ++ e ∷ []
kept-other [] e h = ap (λ x. if x then [] else e ∷ []) h
kept-other (d ∷ ds) e h = ap (kept_before d) (kept-other ds e h) ∙ by ds
  where
    by : (ds : List ℕ) → kept_before d (ds ++ e ∷ []) ≡ d ∷ ds ++ e ∷ []
    by [] = refl
    by (c ∷ cs) = refl

-- ---- padded digits

pub pow_some : (k : ℕ) → 0 < 10 ^ k
pow_some k = one-le-pow k 10 (omega arith)

-- one more digit in front
spread : (m q p r n : ℕ) → q * p + r ≡ n → (10 * m + q) * p + r ≡ m * (p * 10) + n
spread m q p r n h = grind (arith, h)

pub padded-value : (k n m : ℕ) → n < 10 ^ k → read_on m (padded k n) ≡ m * 10 ^ k + n
padded-value zero n m h = omega arith
padded-value (suc k) n m h =
    let p : ℕ = 10 ^ k in
    let rest : n % 10 ^ k < 10 ^ k = mod_below n (10 ^ k) (pow_some k) in
    let digit : 48 + n / 10 ^ k - 48 ≡ n / 10 ^ k = omega arith in
    ap (λ d. read_on (10 * m + d) (padded k (n % 10 ^ k))) digit
    ∙ padded-value k (n % 10 ^ k) (10 * m + n / 10 ^ k) rest
    ∙ spread m (n / 10 ^ k) (10 ^ k) (n % 10 ^ k) n (div-add-mod' n (10 ^ k))
    ∙ ap (λ x. m * x + n) (sym (pow-suc 10 k))

pub padded-length : (k n : ℕ) → length (padded k n) ≡ k
padded-length zero n = refl
padded-length (suc k) n = ap suc (padded-length k (n % 10 ^ k))

below_ten : (n p : ℕ) → 0 < p → n < p * 10 → n / p < 10
below_ten n p some h = div_below n p 10 some (omega (arith, h))

ten_is_digit : (q : ℕ) → q < 10 → is_ascii_digit (48 + q) ≡ true
ten_is_digit q h = grind (arith, nat_tests)

pub padded-digits : (k n : ℕ) → n < 10 ^ k → list_all is_ascii_digit (padded k n) ≡ true
padded-digits zero n h = refl
padded-digits (suc k) n h =
    let within : n < 10 ^ k * 10 = subst (λ (x : ℕ). n < x) (pow-suc 10 k) h in
    let first : is_ascii_digit (48 + n / 10 ^ k) ≡ true = ten_is_digit (n / 10 ^ k) (below_ten n (10 ^ k) (pow_some k) within) in
    ap (λ x. x && list_all is_ascii_digit (padded k (n % 10 ^ k))) first
    ∙ padded-digits k (n % 10 ^ k) (mod_below n (10 ^ k) (pow_some k))

mod_ten : (c r : ℕ) → (c * 10 + r) % 10 ≡ r % 10
mod_ten c r = omega arith

regroup : (q p r n : ℕ) → q * (p * 10) + r ≡ n → q * p * 10 + r ≡ n
regroup q p r n h = grind (arith, h)

-- what is left behind the first digits ends in the same digit
pub last_digit : (k n : ℕ) → n % 10 ^ suc k % 10 ≡ n % 10
last_digit k n =
    let p : ℕ = 10 ^ k in
    let r : ℕ = n % 10 ^ suc k in
    let q : ℕ = n / 10 ^ suc k in
    let parts : n / 10 ^ suc k * (10 ^ k * 10) + n % 10 ^ suc k ≡ n = ap (λ x. n / 10 ^ suc k * x + n % 10 ^ suc k) (sym (pow-suc 10 k)) ∙ div-add-mod' n (10 ^ suc k) in
    sym (mod_ten (n / 10 ^ suc k * 10 ^ k) (n % 10 ^ suc k)) ∙ ap (λ x. x % 10) (regroup (n / 10 ^ suc k) (10 ^ k) (n % 10 ^ suc k) n parts)

-- padded digits with the last one by itself
pub padded-last : (k n : ℕ) → n < 10 ^ suc k → (front : List ℕ) × (padded (suc k) n ≡ front ++ (48 + n % 10) ∷ [])
padded-last zero n h =
    let one : n / 1 ≡ n = omega arith in
    let same : n ≡ n % 10 = omega (arith, h) in
    ([], ap (λ x. (48 + x) ∷ []) (one ∙ same))
padded-last (suc k) n h =
    let later = padded-last k (n % 10 ^ suc k) (mod_below n (10 ^ suc k) (pow_some (suc k))) in (
      (48 + n / 10 ^ suc k) ∷ later.0,
      ap (λ ds. (48 + n / 10 ^ suc k) ∷ ds) (later.1 ∙ ap (λ x. later.0 ++ (48 + x) ∷ []) (last_digit k n)),
    )

no_zero : (d : ℕ) → (d == 0) ≡ false → (48 + d == 48) ≡ false
no_zero d h = grind (arith, nat_tests)

-- digits of a number that doesn't end in 0 have no zero at their end
pub padded-kept : (k n : ℕ) → n < 10 ^ suc k → (n % 10 == 0) ≡ false → kept (padded (suc k) n) ≡ padded (suc k) n
padded-kept k n h other =
    let last = padded-last k n h in
    ap kept last.1 ∙ kept-other last.0 (48 + n % 10) (no_zero (n % 10) other) ∙ sym last.1

-- ---- one step of reading

-- a front that ends in a zero
pub kept-front : (ds front : List ℕ) → ds ≡ front ++ 48 ∷ [] → kept front ≡ kept ds
kept-front ds front h = sym (kept-zero front) ∙ ap kept (sym h)

-- digits that do not end in a zero, or are none
pub kept-whole : (ds : List ℕ) → ((front : List ℕ) → ds ≢ front ++ 48 ∷ []) → kept ds ≡ ds
kept-whole [] h = refl
kept-whole (d ∷ ds) h = by (kept-whole ds (λ front e. h (d ∷ front) (ap (λ xs. d ∷ xs) e))) ds refl
  where
    last : (d == 48) ≡ true → d ≡ 48
    last e = grind (arith, nat_tests)

    alone : (x : Bool) → (d == 48) ≡ x → ds ≡ [] → kept_before d [] ≡ d ∷ []
    alone true is none = absurd (h [] (ap (λ b. b ∷ ds) (last is) ∙ ap (λ xs. 48 ∷ xs) none))
    alone false is none = ap (λ x. if x then [] else d ∷ []) is

    by : kept ds ≡ ds → (es : List ℕ) → ds ≡ es → kept (d ∷ ds) ≡ d ∷ ds
    by later [] is = ap (kept_before d) (later ∙ is) ∙ alone (d == 48) refl is ∙ ap (λ xs. d ∷ xs) (sym is)
    by later (e ∷ es) is = ap (kept_before d) (later ∙ is) ∙ ap (λ xs. d ∷ xs) (sym is)

-- the number where it has 64 bits
abbrev pub in_64 : ℕ → Option ℕ
in_64 n = if nat_lt n (2 ^ 64) then Some n else None

pub in_64-small : (n : ℕ) → n < 2 ^ 64 → Some n ≡ in_64 n
in_64-small n h = let test : nat_lt n (2 ^ 64) ≡ true = grind (arith, nat_tests) in sym (ap (λ x. if x then Some n else None) test)

pub in_64-large : (n : ℕ) → 2 ^ 64 ≤ n → None ≡ in_64 n
in_64-large n h = let test : nat_lt n (2 ^ 64) ≡ false = grind (arith, nat_tests) in sym (ap (λ x. if x then Some n else None) test)

-- the number so far is too large: so is that of all
pub too_large : (n all i : ℕ) (ds : List ℕ) → i < length ds → 2 ^ 64 ≤ 10 * n + (get_or ds i 0 - 48) → read_on n (drop i ds) ≡ all → None ≡ in_64 all
too_large n all i ds within h is =
    let front : drop i ds ≡ get_or ds i 0 ∷ drop (suc i) ds = drop-cons ds i 0 within in
    let whole : read_on (10 * n + (get_or ds i 0 - 48)) (drop (suc i) ds) ≡ all = ap (read_on n) (sym front) ∙ is in
    let on = read_on-le (10 * n + (get_or ds i 0 - 48)) (drop (suc i) ds) in
    in_64-large all (omega (arith, on, h, whole))

-- a digit further
pub further : (n more all i : ℕ) (ds : List ℕ) → i < length ds → more ≡ 10 * n + (get_or ds i 0 - 48) → read_on n (drop i ds) ≡ all → read_on more (drop (i + 1) ds) ≡ all
further n more all i ds within h is =
    let front : drop i ds ≡ get_or ds i 0 ∷ drop (suc i) ds = drop-cons ds i 0 within in
    let place : i + 1 ≡ suc i = omega arith in
    ap (λ k. read_on more (drop k ds)) place ∙ ap (λ m. read_on m (drop (suc i) ds)) h ∙ ap (read_on n) (sym front) ∙ is

-- all digits are read
pub read_all : (n all i : ℕ) (ds : List ℕ) → length ds ≤ i → n < 2 ^ 64 → read_on n (drop i ds) ≡ all → Some n ≡ in_64 all
read_all n all i ds done small is =
    in_64-small n small ∙ ap in_64 (ap (read_on n) (sym (drop_all i ds done)) ∙ is)

-- ---- numbers that are too large

from_in_64 : (n : ℕ) → None ≡ in_64 n → 2 ^ 64 ≤ n
from_in_64 n h = by (nat_lt n (2 ^ 64)) refl
  where
    by : (x : Bool) → nat_lt n (2 ^ 64) ≡ x → 2 ^ 64 ≤ n
    by true is = let wrong : None ≡ Some n = h ∙ ap (λ x. if x then Some n else None) is in absurd cc
    by false is = grind (arith, nat_tests)

unfit : (negative : Bool) (n : ℕ) → 2 ^ 64 ≤ n → fits_int (signed negative n) ≡ false
unfit false n h = grind (arith, ints)
unfit true zero h = absurd (omega (arith, h))
unfit true (suc n) h = grind (arith, ints)

pub none_before : (negative : Bool) (whole fraction : List ℕ) → None ≡ in_64 (read_on 0 whole) → None ≡ number_of negative whole fraction
none_before negative whole fraction h =
    let large = from_in_64 (read_on 0 whole) h in
    let more = read_on-le (read_on 0 whole) fraction in
    let off : fits_int (signed negative (read_on (read_on 0 whole) fraction)) ≡ false = unfit negative _ (omega (arith, large, more)) in
    sym (ap (λ x. if x then Some (record { mantissa = signed negative (read_on (read_on 0 whole) fraction); places = length fraction }) else None)
    (and_right (nat_lt 0 (length whole) && nat_le (length fraction) places_max) _ off))
