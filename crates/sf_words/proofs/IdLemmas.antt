-- What the digits of an identifier are parsed as.
use Rattle.std.proofs.Common.{◌≡◌, ℕ, ◌+◌, ◌-◌, ◌*◌, ◌^◌, ◌<◌, Bool, true, false, ◌&&◌, nat_lt, nat_le, List, length, fold, Option, Some, None, Result, Ok, Err, if◌then◌else◌, cond, refl, sym, ap, ◌∙◌, arith, rules}
use Rattle.std.proofs.lemmas.Bool.Decides.{nat_tests}
use Rattle.std.proofs.lemmas.Str.Parse.{IsNumeralModel, numerals_by_fold, parse_digits}
use Rattle.std.specs.Char.{is_ascii_digit}
use Rattle.std.specs.List.{list_all}
use Rattle.std.specs.Result.{OkIff, result_ok}
use Rattle.std.specs.Str.Parse.{ParsesUnsigned}
use Rattle.sf_wkt.specs.Tokens.{digits_value}
use Rattle.sf_words.specs.Naming.{id_digits_max, id_of}

-- digits with a value: what `digits_value` says of the text that `parse` reads
own : IsNumeralModel (λ ds. list_all is_ascii_digit ds ≡ true) digits_value
own = numerals_by_fold _ (search rules) (λ n digits. fold (λ n digit. 10 * n + (digit - 48)) n digits) (search rules)

-- the identifier where a text has the form of one
abbrev if_numeral : Bool → List ℕ → Option ℕ
if_numeral is word = if is && (nat_lt 0 (length word) && nat_lt (digits_value word) (2 ^ 32)) then Some (digits_value word) else None

-- a text in another form is no identifier
pub id_of-not_numeral : (word : List ℕ) → (nat_le (length word) id_digits_max && list_all is_ascii_digit word) ≡ false → None ≡ id_of word
id_of-not_numeral word not_numeral = sym (ap (λ is. if_numeral is word) not_numeral)

second_of : (a b : Bool) → (a && b) ≡ true → b ≡ true
second_of true b both = both
second_of false b both = cc

-- what was parsed, if a number was
parsed : {E : Type 0} (len id : ℕ) (r : Result ℕ E) → OkIff r ((0 < len) × (id < 2 ^ 32)) id
    → (some fits : Bool) → nat_lt 0 len ≡ some → nat_lt id (2 ^ 32) ≡ fits → result_ok r ≡ cond (some && fits) (Some id) None
parsed len id (Ok x) h true true is_some is_small = ap Some h.1
parsed len id (Ok x) h some fits is_some is_small = absurd (grind (arith, nat_tests))
parsed len id (Err e) h true true is_some is_small = absurd (h (grind (arith, nat_tests), grind (arith, nat_tests)))
parsed len id (Err e) h true false is_some is_small = refl
parsed len id (Err e) h false fits is_some is_small = refl

-- a text in the form of an identifier is one where it is parsed
pub id_of-parsed : {E : Type 0} (word : List ℕ) (r : Result ℕ E) → ParsesUnsigned 32 10 word r
    → (nat_le (length word) id_digits_max && list_all is_ascii_digit word) ≡ true → result_ok r ≡ id_of word
id_of-parsed word r parses numeral =
    let digits : list_all is_ascii_digit word ≡ true = second_of (nat_le (length word) id_digits_max) (list_all is_ascii_digit word) numeral in
    parsed (length word) (digits_value word) r (parse_digits own 32 word r parses digits) _ _ refl refl
    ∙ sym (ap (λ is. if_numeral is word) numeral)
