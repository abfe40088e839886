-- What begins with a letter is a word or a text with escapes: no day, no moment and no number does.
use Rattle.std.proofs.Common.{◌≡◌, ℕ, ◌+◌, ◌/◌, ◌≤◌, true, false, ◌&&◌, List, [], ◌∷◌, length, take, drop, cond, Option, None, Some, option_map, refl, ap, ◌∙◌, arith}
use Rattle.std.specs.Prelude.{◌==◌, ◌||◌, if◌then◌else◌, nat_le, nat_lt}
use Rattle.std.specs.Char.{is_ascii_digit}
use Rattle.std.specs.List.{list_all, prefix_len}
use Rattle.std.proofs.lemmas.Bool.Decides.{nat_tests}
use Rattle.std.proofs.lemmas.Grind.{common_steps}
use Rattle.sf_dates.specs.declared.day.Day.{Day}
use Rattle.sf_dates.specs.Texts.{date_spelled, datetime_by, millisecond_spelled, second_spelled}
use Rattle.sf_dates.proofs.Days.{date_back, small_from}
use Rattle.sf_decimals.specs.Decimals.{decimal_spelled, fraction_of, number_with, unsigned_spelled}
use Rattle.sf_features.specs.declared.attr_value.AttrValue.{AttrValue}
use Rattle.sf_features.specs.declared.attr_value.AttrValue.TheVariants.{Date, DateTime}
use Rattle.sf_features.specs.Values.{number_value}
use Rattle.sf_values.specs.Values.{begins_with_escape, begins_with_letter, begins_with_quote, bool_of, datetime_of, escaped_text_of, number_of, or_else, text_of, unquoted_of, value_of, wordless_of}

-- a letter is no digit, no sign and no point
record IsLetter (b : ℕ) : Type 0 where
  digit : is_ascii_digit b ≡ false
  plus : (b == 43) ≡ false
  minus : (b == 45) ≡ false
  point : (b == 46) ≡ false

is-letter : (b : ℕ) → nat_le 65 b ≡ true → IsLetter b
is-letter b high = record {
  digit = grind (arith, nat_tests, common_steps);
  plus = grind (arith, nat_tests, common_steps);
  minus = grind (arith, nat_tests, common_steps);
  point = grind (arith, nat_tests, common_steps);
}

high-byte : (b : ℕ) → nat_le 65 b ≡ true → 65 ≤ b
high-byte b high = grind (arith, nat_tests)

no-day : (b : ℕ) (bytes : List ℕ) → nat_le 65 b ≡ true → date_spelled (b ∷ bytes) ≡ None
no-day b bytes high = by (date_spelled (b ∷ bytes)) refl
  where
    by : (o : Option Day) → date_spelled (b ∷ bytes) ≡ o → o ≡ None
    by None is = refl
    by (Some day) is =
        let back = date_back (b ∷ bytes) day is in
        let small = small_from day.year day.month day.day back.0 in
        let same = back.1 in
        let first : 48 + day.year / 100 / 10 ≡ b = cc in
        absurd (omega (arith, high-byte b high, small.year, first))

no-number : (b : ℕ) (bytes : List ℕ) → IsLetter b → decimal_spelled (b ∷ bytes) ≡ None
no-number b bytes letter =
    ap (λ x. unsigned_spelled (b == 45) (drop (if x || b == 45 then 1 else 0) (b ∷ bytes))) letter.plus
    ∙ ap (λ x. unsigned_spelled (b == 45) (drop (if x then 1 else 0) (b ∷ bytes))) letter.minus
    ∙ ap (λ x. let len = cond x (1 + prefix_len is_ascii_digit bytes) 0 in number_with (b == 45) (take len (b ∷ bytes)) (fraction_of (drop len (b ∷ bytes)))) letter.digit
    ∙ ap (λ x. number_with (b == 45) [] (if x && nat_lt 0 (length bytes) && list_all is_ascii_digit bytes then Some bytes else None)) letter.point

no-wordless : (bytes : List ℕ) → begins_with_letter bytes ≡ true → wordless_of bytes ≡ None
no-wordless [] high = absurd cc
no-wordless (b ∷ bytes) high =
    let text = b ∷ bytes in
    ap (λ o. or_else (option_map Date o) (or_else (datetime_of text) (number_of text))) (no-day b bytes high)
    ∙ ap (λ o. or_else (option_map DateTime (datetime_by o (second_spelled (take 9 (drop 10 text))) (millisecond_spelled (drop 19 text)))) (number_of text)) (no-day b (take 9 bytes) high)
    ∙ ap (option_map number_value) (no-number b bytes (is-letter b high))

or_none : (o : Option AttrValue) → or_else o None ≡ o
or_none None = refl
or_none (Some value) = refl

pub or_else-or_else : (a b c : Option AttrValue) → or_else (or_else a b) c ≡ or_else a (or_else b c)
or_else-or_else None b c = refl
or_else-or_else (Some value) b c = refl

pub lettered : (bytes : List ℕ) → begins_with_quote bytes ≡ false → begins_with_letter bytes ≡ true
    → value_of bytes ≡ (if begins_with_escape bytes then escaped_text_of bytes else bool_of bytes)
lettered bytes plain high =
    ap (λ b. if b then text_of bytes else if begins_with_escape bytes then escaped_text_of bytes else unquoted_of bytes) plain
    ∙ ap (λ o. if begins_with_escape bytes then escaped_text_of bytes else o) (ap (or_else (bool_of bytes)) (no-wordless bytes high) ∙ or_none (bool_of bytes))
