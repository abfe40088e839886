-- The editor whom the first word of a line names.
use Rattle.std.proofs.Common.{◌≡◌, ◌≢◌, ℕ, ◌+◌, ◌-◌, ◌*◌, ◌^◌, ◌<◌, Bool, true, false, ◌&&◌, cond, nat_eq, nat_lt, nat_le, List, [], ◌∷◌, ◌++◌, drop, length, fold, Option, Some, None, MatchOption, Result, Ok, Err, if◌then◌else◌, refl, sym, ap, ◌∙◌, arith, rules}
use denote.Ref.{Bor}
use lib.Utf8
use Rattle.std.specs.Char.{encode_utf8, is_ascii_digit}
use Rattle.std.specs.List.{list_all}
use Rattle.std.specs.Result.{OkIff, result_ok}
use Rattle.std.specs.Str.Parse.{ParsesUnsigned}
use Rattle.std.specs.Str.Pattern.{FindsCharPrefix, StripsPrefix}
use Rattle.std.proofs.lemmas.Bool.{eqb-true}
use Rattle.std.proofs.lemmas.Bool.Decides.{nat_tests}
use Rattle.std.proofs.lemmas.Str.Parse.{IsNumeralModel, numerals_by_fold, parse_digits}
use Rattle.sf_wkt.specs.Tokens.{digits_value}
use Rattle.sf_words.specs.Editors.{behind_at, editor_digits_max, editor_of}

-- ---- behind the `@`

encoded : encode_utf8 64 ≡ 64 ∷ []
unfolding lib.Utf8.encode
encoded = refl

by_test : (bytes : List ℕ) (is : Bool) → (is ≡ true → ⊥) → (if is then Some bytes else None) ≡ None
by_test bytes true apart = absurd (apart refl)
by_test bytes false apart = refl

none_behind : (text : List ℕ) → ((rest : List ℕ) → text ≢ 64 ∷ rest) → behind_at text ≡ None
none_behind [] apart = refl
none_behind (b ∷ bytes) apart = by_test bytes (nat_eq b 64) (λ is. apart bytes (ap (λ c. c ∷ bytes) (eqb-true b 64 is)))

-- a word without the `@` at its front
pub at-stripped : (text : List ℕ) (r : Option (Bor (List ℕ)))
    → MatchOption r ((rest : List ℕ) → text ≢ encode_utf8 64 ++ rest) (λ x. StripsPrefix (FindsCharPrefix 64) text x.now)
    → MatchOption r (behind_at text ≡ None) (λ rest. behind_at text ≡ Some rest.now)
at-stripped text None h = none_behind text (λ rest is. h rest (is ∙ ap (λ e. e ++ rest) (sym encoded)))
at-stripped text (Some x) (n, at, is, long) =
    ap behind_at (at.split ∙ ap (λ e. e ++ drop n text) encoded) ∙ ap (λ (rest : List ℕ). Some rest) (sym is)

-- ---- the number

own : IsNumeralModel (λ ds. list_all is_ascii_digit ds ≡ true) digits_value
own = numerals_by_fold _ (search rules) (λ n digits. fold (λ n digit. 10 * n + (digit - 48)) n digits) (search rules)

-- a number above 0
abbrev pub above_zero : Option ℕ → Option ℕ
above_zero None = None
above_zero (Some n) = cond (nat_lt 0 n) (Some n) None

positive : (n : ℕ) → n ≢ 0 → nat_lt 0 n ≡ true
positive n apart = grind (arith, nat_tests)

pub above_zero-some : (n : ℕ) → n ≢ 0 → above_zero (Some n) ≡ Some n
above_zero-some n apart = ap (λ b. cond b (Some n) None) (positive n apart)

abbrev if_numeral : Bool → List ℕ → Option ℕ
if_numeral is digits = if is && (nat_lt 0 (digits_value digits) && nat_lt (digits_value digits) (2 ^ 8)) then Some (digits_value digits) else None

pub editor_of-not_numeral : (digits : List ℕ) → (nat_le (length digits) editor_digits_max && list_all is_ascii_digit digits) ≡ false → None ≡ editor_of digits
editor_of-not_numeral digits not_numeral = sym (ap (λ is. if_numeral is digits) not_numeral)

second_of : (a b : Bool) → (a && b) ≡ true → b ≡ true
second_of true b both = both
second_of false b both = cc

no_digits : (digits : List ℕ) → 0 < digits_value digits → 0 < length digits
no_digits [] h = absurd (omega arith)
no_digits (d ∷ digits) h = omega arith

-- what was parsed, if a number above 0 was
parsed : {E : Type 0} (len id : ℕ) (r : Result ℕ E) → OkIff r ((0 < len) × (id < 2 ^ 8)) id → (0 < id → 0 < len)
    → (some fits : Bool) → nat_lt 0 id ≡ some → nat_lt id (2 ^ 8) ≡ fits → above_zero (result_ok r) ≡ cond (some && fits) (Some id) None
parsed len id (Ok x) h long some true is_some is_small = ap (λ n. above_zero (Some n)) h.1 ∙ ap (λ b. cond b (Some id) None) is_some ∙ and_true some id
  where
    and_true : (b : Bool) (n : ℕ) → cond b (Some n) None ≡ cond (b && true) (Some n) None
    and_true true n = refl
    and_true false n = refl
parsed len id (Ok x) h long some false is_some is_small = absurd (grind (arith, nat_tests))
parsed len id (Err e) h long true true is_some is_small = absurd (h (long (grind (arith, nat_tests)), grind (arith, nat_tests)))
parsed len id (Err e) h long true false is_some is_small = refl
parsed len id (Err e) h long false fits is_some is_small = refl

pub editor_of-parsed : {E : Type 0} (digits : List ℕ) (r : Result ℕ E) → ParsesUnsigned 8 10 digits r
    → (nat_le (length digits) editor_digits_max && list_all is_ascii_digit digits) ≡ true → above_zero (result_ok r) ≡ editor_of digits
editor_of-parsed digits r parses numeral =
    let all : list_all is_ascii_digit digits ≡ true = second_of (nat_le (length digits) editor_digits_max) (list_all is_ascii_digit digits) numeral in
    parsed (length digits) (digits_value digits) r (parse_digits own 8 digits r parses all) (no_digits digits) _ _ refl refl
    ∙ sym (ap (λ is. if_numeral is digits) numeral)
