-- A number that is written is read as the same one; what is read is in its one form.
use Rattle.std.proofs.Common.{◌≡◌, ℕ, zero, suc, ◌/◌, ◌%◌, ◌^◌, ◌<◌, ◌≤◌, ℤ, pos, negsuc, Bool, true, false, not, ◌&&◌, List, [], ◌∷◌, ◌++◌, length, take, drop, Option, None, Some, refl, sym, ap, ◌∙◌, arith, rules}
use Rattle.std.specs.Prelude.{◌==◌, ◌||◌, if◌then◌else◌, nat_lt, nat_le}
use Rattle.std.specs.Char.{is_ascii_digit}
use Rattle.std.specs.List.{list_all, prefix_len}
use Rattle.std.specs.Fmt.{decimal}
use Rattle.std.proofs.Math.Seq.{take-append_seam, drop-append_seam}
use Rattle.std.proofs.lemmas.Bool.{and_parts, not-true}
use Rattle.std.proofs.lemmas.Bool.Decides.{nat_tests}
use Rattle.std.proofs.lemmas.Fmt.{digits_decimal, digits_value-decimal, decimal_nonempty}
use Rattle.std.proofs.lemmas.Int.{ints}
use Rattle.std.proofs.lemmas.Nat.{mod_below, div-add-mod'}
use Rattle.std.proofs.lemmas.Str.Parse.{IsNumeralModel, numerals_by_fold}
use Rattle.sf_decimals.specs.declared.number.Number.{Number}
use Rattle.sf_decimals.specs.Decimals.{places_max, signed, fits_int, is_reduced, IsDecimal, read_on, fraction_of, kept, number_of, number_with, unsigned_spelled, decimal_spelled, padded, fraction_text, unsigned_text, decimal_text}
use Rattle.sf_decimals.proofs.Digits.{padded-value, padded-length, padded-digits, padded-kept, last_digit, pow_some}

own : IsNumeralModel (λ ds. list_all is_ascii_digit ds ≡ true) (read_on 0)
own = numerals_by_fold _ (search rules) read_on (search rules)

digits_end : (ds rest : List ℕ) → list_all is_ascii_digit ds ≡ true → prefix_len is_ascii_digit rest ≡ 0 → prefix_len is_ascii_digit (ds ++ rest) ≡ length ds
digits_end [] rest all none = none
digits_end (d ∷ ds) rest all none =
    let both = and_parts (is_ascii_digit d) (list_all is_ascii_digit ds) all in
    let first = both.0 in
    rw first (omega (arith, digits_end ds rest both.1 none))

-- a point ends the digits
point_ends : (p n : ℕ) → prefix_len is_ascii_digit (fraction_text p n) ≡ 0
point_ends zero n = refl
point_ends (suc p) n = refl

some_true : (n : ℕ) → 0 < n → nat_lt 0 n ≡ true
some_true n h = grind (arith, nat_tests)

fraction_read : (p n : ℕ) → n < 10 ^ p → fraction_of (fraction_text p n) ≡ Some (padded p n)
fraction_read zero n h = refl
fraction_read (suc p) n h =
    let some : nat_lt 0 (length (padded (suc p) n)) ≡ true = some_true (length (padded (suc p) n)) (let len = padded-length (suc p) n in omega (arith, len)) in
    ap (λ x. if x && list_all is_ascii_digit (padded (suc p) n) then Some (padded (suc p) n) else None) some
    ∙ ap (λ x. if x then Some (padded (suc p) n) else None) (padded-digits (suc p) n h)

-- the fraction of a number in its one form has no zero at its end
fraction_kept : (p n : ℕ) → is_reduced p n ≡ true → kept (padded p (n % 10 ^ p)) ≡ padded p (n % 10 ^ p)
fraction_kept zero n h = refl
fraction_kept (suc p) n h =
    let none : (suc p == 0) ≡ false = grind (arith, nat_tests) in
    let other : (n % 10 == 0) ≡ false = not-true (n % 10 == 0) (sym (ap (λ x. x || not (n % 10 == 0)) none) ∙ h) in
    padded-kept p (n % 10 ^ suc p) (mod_below n (10 ^ suc p) (pow_some (suc p))) (ap (λ d. d == 0) (last_digit p n) ∙ other)

-- both parts together are the number
whole_and_fraction : (p n : ℕ) → n < 2 ^ 64 → n / 10 ^ p < 2 ^ 64 → read_on (read_on 0 (decimal (n / 10 ^ p))) (padded p (n % 10 ^ p)) ≡ n
whole_and_fraction p n fits small =
    ap (λ w. read_on w (padded p (n % 10 ^ p))) (digits_value-decimal own (n / 10 ^ p) small)
    ∙ padded-value p (n % 10 ^ p) (n / 10 ^ p) (mod_below n (10 ^ p) (pow_some p))
    ∙ div-add-mod' n (10 ^ p)

le_true : (n m : ℕ) → n ≤ m → nat_le n m ≡ true
le_true n m h = grind (arith, nat_tests)

number_by : (some few fits : Bool) (x : Option Number) → some ≡ true → few ≡ true → fits ≡ true → (if some && few && fits then x else None) ≡ x
number_by some few fits x a b c = ap (λ y. if y && few && fits then x else None) a ∙ ap (λ y. if y && fits then x else None) b ∙ ap (λ y. if y then x else None) c

number_read : (negative : Bool) (p n k : ℕ) (whole fraction : List ℕ) → 0 < length whole → length fraction ≡ p → p ≤ 18 → read_on (read_on 0 whole) fraction ≡ n → fits_int (signed negative n) ≡ true
    → number_of negative whole fraction ≡ Some (record { mantissa = signed negative n; places = p })
number_read negative p n k whole fraction some len few value fits =
    number_by (nat_lt 0 (length whole)) (nat_le (length fraction) places_max) (fits_int (signed negative (read_on (read_on 0 whole) fraction))) _
    (some_true (length whole) some) (le_true (length fraction) 18 (omega (arith, len, few))) (ap (λ v. fits_int (signed negative v)) value ∙ fits)
    ∙ ap (λ (v : ℕ). Some (record { mantissa = signed negative v; places = length fraction })) value
    ∙ ap (λ (l : ℕ). Some (record { mantissa = signed negative n; places = l })) len

quotient_le : (n p : ℕ) → 0 < p → n / p ≤ n
quotient_le n p some = grind (arith, div-add-mod' n p)

pub unsigned_read : (negative : Bool) (p n : ℕ) → p ≤ 18 → n < 2 ^ 64 → is_reduced p n ≡ true → fits_int (signed negative n) ≡ true
    → unsigned_spelled negative (unsigned_text p n) ≡ Some (record { mantissa = signed negative n; places = p })
unsigned_read negative p n few fits64 reduced fits =
    let whole : List ℕ = decimal (n / 10 ^ p) in
    let small : n / 10 ^ p < 2 ^ 64 = let le = quotient_le n (10 ^ p) (pow_some p) in omega (arith, le, fits64) in
    let all : list_all is_ascii_digit (decimal (n / 10 ^ p)) ≡ true = digits_decimal own (n / 10 ^ p) small in
    let len : prefix_len is_ascii_digit (unsigned_text p n) ≡ length (decimal (n / 10 ^ p)) = digits_end (decimal (n / 10 ^ p)) (fraction_text p (n % 10 ^ p)) all (point_ends p (n % 10 ^ p)) in
    ap (λ l. number_with negative (take l (unsigned_text p n)) (fraction_of (drop l (unsigned_text p n)))) len
    ∙ ap (λ w. number_with negative w (fraction_of (drop (length (decimal (n / 10 ^ p))) (unsigned_text p n)))) (take-append_seam (decimal (n / 10 ^ p)) (fraction_text p (n % 10 ^ p)))
    ∙ ap (λ r. number_with negative (decimal (n / 10 ^ p)) (fraction_of r)) (drop-append_seam (decimal (n / 10 ^ p)) (fraction_text p (n % 10 ^ p)))
    ∙ ap (number_with negative (decimal (n / 10 ^ p))) (fraction_read p (n % 10 ^ p) (mod_below n (10 ^ p) (pow_some p)))
    ∙ ap (number_of negative (decimal (n / 10 ^ p))) (fraction_kept p n reduced)
    ∙ number_read negative p n 0 (decimal (n / 10 ^ p)) (padded p (n % 10 ^ p)) (decimal_nonempty (n / 10 ^ p) small) (padded-length p (n % 10 ^ p)) few (whole_and_fraction p n fits64 small) fits

-- ---- signs

digit_alone : (d : ℕ) → is_ascii_digit d ≡ true → ((d == 43) ≡ false) × ((d == 45) ≡ false)
digit_alone d h = (grind (arith, nat_tests), grind (arith, nat_tests))

no_sign : (ds rest : List ℕ) → 0 < length ds → list_all is_ascii_digit ds ≡ true → decimal_spelled (ds ++ rest) ≡ unsigned_spelled false (ds ++ rest)
no_sign [] rest some all = absurd (omega (arith, some))
no_sign (d ∷ ds) rest some all =
    let alone = digit_alone d (and_parts (is_ascii_digit d) (list_all is_ascii_digit ds) all).0 in
    let plus = alone.0 in
    let minus = alone.1 in
    ap (λ x. unsigned_spelled x (drop (if d == 43 || d == 45 then 1 else 0) (d ∷ ds ++ rest))) minus
    ∙ ap (λ x. unsigned_spelled false (drop (if x || d == 45 then 1 else 0) (d ∷ ds ++ rest))) plus
    ∙ ap (λ x. unsigned_spelled false (drop (if x then 1 else 0) (d ∷ ds ++ rest))) minus

fits-pos : (n : ℕ) → fits_int (pos n) ≡ true → n < 2 ^ 64
fits-pos n h = grind (arith, ints)

fits-neg : (n : ℕ) → fits_int (negsuc n) ≡ true → suc n < 2 ^ 64
fits-neg n h = grind (arith, ints)

le_from : (n m : ℕ) → nat_le n m ≡ true → n ≤ m
le_from n m h = grind (arith, nat_tests)

-- what is written is read as what it was
pub written_read : (mantissa : ℤ) (places : ℕ) → IsDecimal (record { mantissa = mantissa; places = places })
    → decimal_spelled (decimal_text (record { mantissa = mantissa; places = places })) ≡ Some (record { mantissa = mantissa; places = places })
written_read (pos n) p h =
    let outer = and_parts (fits_int (pos n) && nat_le p places_max) (is_reduced p n) h in
    let inner = and_parts (fits_int (pos n)) (nat_le p places_max) outer.0 in
    let fits64 = fits-pos n inner.0 in
    let small : n / 10 ^ p < 2 ^ 64 = let le = quotient_le n (10 ^ p) (pow_some p) in omega (arith, le, fits64) in
    no_sign (decimal (n / 10 ^ p)) (fraction_text p (n % 10 ^ p)) (decimal_nonempty (n / 10 ^ p) small) (digits_decimal own (n / 10 ^ p) small)
    ∙ unsigned_read false p n (le_from p 18 inner.1) fits64 outer.1 inner.0
written_read (negsuc n) p h =
    let outer = and_parts (fits_int (negsuc n) && nat_le p places_max) (is_reduced p (suc n)) h in
    let inner = and_parts (fits_int (negsuc n)) (nat_le p places_max) outer.0 in
    unsigned_read true p (suc n) (le_from p 18 inner.1) (fits-neg n inner.0) outer.1 inner.0
