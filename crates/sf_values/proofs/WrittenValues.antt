-- The text of a value is read as that value: no text is spelled in two ways.
use Rattle.std.proofs.Common.{◌≡◌, ◌≢◌, ℕ, zero, suc, ◌+◌, ◌-◌, ◌/◌, ◌%◌, ◌^◌, ◌<◌, ◌≤◌, ℤ, pos, negsuc, Bool as Truth, true, false, ◌&&◌, List, [], ◌∷◌, ◌++◌, length, take, drop, flat_map, bytes_eq, codes, option_map, Option, None, Some, refl, sym, ap, ◌∙◌, arith, append-nil, length-append, true≢false, rules}
use Rattle.std.specs.Prelude.{◌==◌, ◌||◌, if◌then◌else◌, nat_le, nat_lt}
use Rattle.std.specs.Char.{is_ascii_digit}
use Rattle.std.specs.Fmt.{decimal, signed_decimal}
use Rattle.std.specs.List.{list_all, list_any}
use Rattle.std.specs.Map.{lookup}
use Rattle.std.specs.Str.{is_utf8}
use Rattle.std.proofs.Math.Nat.{div-one}
use Rattle.std.proofs.Math.Seq.{take-append_seam}
use Rattle.std.proofs.lemmas.Bool.{and_from, and_parts}
use Rattle.std.proofs.lemmas.Bool.Decides.{nat_tests}
use Rattle.std.proofs.lemmas.Fmt.{digits_decimal}
use Rattle.std.proofs.lemmas.Grind.{common_steps}
use Rattle.std.proofs.lemmas.Int.{ints}
use Rattle.std.proofs.lemmas.List.Folds.{list_all-append}
use Rattle.std.proofs.lemmas.Nat.{mod_below}
use Rattle.std.proofs.lemmas.Slice.Eq.{bytes_eq-Decides}
use Rattle.std.proofs.lemmas.Str.Parse.{IsNumeralModel, numerals_by_fold}
use Rattle.sf_dates.specs.declared.day.Day.{Day}
use Rattle.sf_dates.specs.declared.moment.Moment.{Moment}
use Rattle.sf_dates.specs.Calendar.{is_day, is_moment}
use Rattle.sf_dates.specs.Texts.{date_spelled, date_text, datetime_by, datetime_text, millisecond_spelled, second_spelled}
use Rattle.sf_dates.proofs.Days.{date_back, date_read}
use Rattle.sf_dates.proofs.Moments.{datetime_read}
use Rattle.sf_decimals.specs.declared.number.Number.{Number}
use Rattle.sf_decimals.specs.Decimals.{decimal_spelled, decimal_text, fits_int, fraction_text, is_decimal, is_fraction, is_reduced, padded, places_max, read_on, unsigned_text}
use Rattle.sf_decimals.proofs.Digits.{padded-digits, pow_some}
use Rattle.sf_decimals.proofs.RoundTrip.{written_read}
use Rattle.sf_features.specs.declared.column_type.ColumnType.{ColumnType}
use Rattle.sf_features.specs.declared.column_type.ColumnType.TheVariants as types
use Rattle.sf_features.specs.declared.attr_value.AttrValue.{AttrValue}
use Rattle.sf_features.specs.declared.attr_value.AttrValue.TheVariants.{Int, Text, Decimal, Bool, Date, DateTime}
use Rattle.sf_features.specs.Values.{is_of_type, is_text_byte, number_value, text_max}
use Rattle.sf_values.specs.Escapes.{is_control}
use Rattle.sf_values.specs.Values.{begins_with_escape, begins_with_quote, bool_of, date_of, datetime_of, number_of, or_else, quoted, quoted_byte, escaped_text_of, text_of, undoubled, unquoted_of, value_of, value_text, written_text}
use Rattle.sf_values.proofs.Escapes.{chosen, escaped-read}
use Rattle.sf_values.proofs.QuoteLemmas.{undoubled-letter}

-- ---- texts in quotes

is-quote : (b : ℕ) → (b == 39) ≡ true → 39 ≡ b
is-quote b is = grind (arith, common_steps)

undoubled-quoted : (text : List ℕ) → undoubled false (flat_map quoted_byte text) ≡ text
undoubled-quoted [] = refl
undoubled-quoted (b ∷ text) = by (undoubled-quoted text) (b == 39) refl
  where
    by : undoubled false (flat_map quoted_byte text) ≡ text → (x : Truth) → (b == 39) ≡ x → undoubled false (flat_map quoted_byte (b ∷ text)) ≡ b ∷ text
    by later true is =
        ap (λ x. undoubled false ((if x then 39 ∷ 39 ∷ [] else b ∷ []) ++ flat_map quoted_byte text)) is
        ∙ ap (λ rest. 39 ∷ rest) later ∙ ap (λ c. c ∷ text) (is-quote b is)
    by later false is =
        ap (λ x. undoubled false ((if x then 39 ∷ 39 ∷ [] else b ∷ []) ++ flat_map quoted_byte text)) is
        ∙ undoubled-letter b (flat_map quoted_byte text) is ∙ ap (λ rest. b ∷ rest) later

quoted-read : (text : List ℕ) → text_of (quoted text) ≡ Some (Text text)
quoted-read text =
    let inside = flat_map quoted_byte text in
    let inner : take (length (quoted text) - 2) (drop 1 (quoted text)) ≡ flat_map quoted_byte text =
    ap (λ k. take k (inside ++ 39 ∷ [])) (omega (arith, length-append inside (39 ∷ []))) ∙ take-append_seam inside (39 ∷ []) in
    let whole : undoubled false (take (length (quoted text) - 2) (drop 1 (quoted text))) ≡ text = ap (undoubled false) inner ∙ undoubled-quoted text in
    ap (λ (t : List ℕ). if bytes_eq (quoted t) (quoted text) then Some (Text t) else None) whole
    ∙ ap (λ b. if b then Some (Text text) else None) ((bytes_eq-Decides (quoted text) (quoted text)).1 refl)

text-read : (text : List ℕ) → is_utf8 text ≡ true → value_of (written_text text) ≡ Some (Text text)
text-read text utf8 = chosen (λ spelled. value_of spelled ≡ Some (Text text)) (list_any is_control text) _ _ (λ is. escaped-read text utf8) λ is. quoted-read text

-- ---- what no word spells

no-match : (text word : List ℕ) → text ≢ word → bytes_eq text word ≡ false
no-match text word apart = by (bytes_eq text word) refl
  where
    by : (x : Truth) → bytes_eq text word ≡ x → x ≡ false
    by true is = absurd (apart ((bytes_eq-Decides text word).0 is))
    by false is = refl

pub no-word : (text : List ℕ) → text ≢ codes "true" → text ≢ codes "false" → bool_of text ≡ None
no-word text other another =
    ap (λ b. option_map Bool (if b then Some true else lookup (bytes_eq text) ((codes "false", false) ∷ []))) (no-match text (codes "true") other)
    ∙ ap (λ b. option_map Bool (if b then Some false else None)) (no-match text (codes "false") another)

-- what does not begin as a text
pub no-text : (text : List ℕ) → begins_with_quote text ≡ false → begins_with_escape text ≡ false → value_of text ≡ unquoted_of text
no-text text plain no_escape =
    ap (λ b. if b then text_of text else if begins_with_escape text then escaped_text_of text else unquoted_of text) plain
    ∙ ap (λ b. if b then escaped_text_of text else unquoted_of text) no_escape

-- ---- numbers

-- a byte of a number behind its sign
abbrev pub is_number_byte : ℕ → Truth
is_number_byte b = is_ascii_digit b || b == 46

no-quote : (b : ℕ) → is_number_byte b ≡ true → (b == 39) ≡ false
no-quote b is = grind (arith, nat_tests, common_steps)

no-e : (b : ℕ) → is_number_byte b ≡ true → (b == 69) ≡ false
no-e b is = grind (arith, nat_tests, common_steps)

no-letter : (b : ℕ) → is_number_byte b ≡ true → (b ≢ 116) × (b ≢ 102)
no-letter b is = (λ h. grind (arith, nat_tests, common_steps), λ h. grind (arith, nat_tests, common_steps))

take-all : (p : ℕ → Truth) (n : ℕ) (bytes : List ℕ) → list_all p bytes ≡ true → list_all p (take n bytes) ≡ true
take-all p zero bytes all = refl
take-all p (suc n) [] all = refl
take-all p (suc n) (b ∷ bytes) all = let parts = and_parts (p b) (list_all p bytes) all in and_from (p b) (list_all p (take n bytes)) parts.0 (take-all p n bytes parts.1)

-- five bytes of which the last is a dash are none of a number
five : (a b c d : ℕ) (bytes : List ℕ) → list_all is_number_byte (a ∷ b ∷ c ∷ d ∷ 45 ∷ bytes) ≡ true → ⊥
five a b c d bytes h =
    let one = and_parts (is_number_byte a) (list_all is_number_byte (b ∷ c ∷ d ∷ 45 ∷ bytes)) h in
    let two = and_parts (is_number_byte b) (list_all is_number_byte (c ∷ d ∷ 45 ∷ bytes)) one.1 in
    let three = and_parts (is_number_byte c) (list_all is_number_byte (d ∷ 45 ∷ bytes)) two.1 in
    let four = and_parts (is_number_byte d) (list_all is_number_byte (45 ∷ bytes)) three.1 in
    true≢false (sym four.1)

-- a day has a dash behind its year
no-date : (text : List ℕ) → list_all is_number_byte text ≡ true → date_spelled text ≡ None
no-date text all = by (date_spelled text) refl
  where
    dash : (day : Day) → list_all is_number_byte (date_text day) ≡ true → ⊥
    dash day h = five (48 + day.year / 100 / 10) (48 + day.year / 100 % 10) (48 + day.year % 100 / 10) (48 + day.year % 100 % 10) (drop 5 (date_text day)) h

    by : (o : Option Day) → date_spelled text ≡ o → o ≡ None
    by None is = refl
    by (Some day) is = absurd (dash day (ap (list_all is_number_byte) (date_back text day is).1 ∙ all))

-- nor does a day begin with one
no-minus-date : (text : List ℕ) → date_spelled (45 ∷ text) ≡ None
no-minus-date text = by (date_spelled (45 ∷ text)) refl
  where
    by : (o : Option Day) → date_spelled (45 ∷ text) ≡ o → o ≡ None
    by None is = refl
    by (Some day) is = let same = (date_back (45 ∷ text) day is).1 in let first : 48 + day.year / 100 / 10 ≡ 45 = cc in absurd (omega (arith, first))

number-read : (text : List ℕ) (d : Number) → begins_with_quote text ≡ false → begins_with_escape text ≡ false → bool_of text ≡ None → date_spelled text ≡ None → date_spelled (take 10 text) ≡ None → decimal_spelled text ≡ Some d
    → value_of text ≡ Some (number_value d)
number-read text d plain no_escape no_bool no_day no_moment is =
    no-text text plain no_escape
    ∙ ap (λ o. or_else o (or_else (date_of text) (or_else (datetime_of text) (number_of text)))) no_bool
    ∙ ap (λ o. or_else (option_map Date o) (or_else (datetime_of text) (number_of text))) no_day
    ∙ ap (λ o. or_else (option_map DateTime (datetime_by o (second_spelled (take 9 (drop 10 text))) (millisecond_spelled (drop 19 text)))) (number_of text)) no_moment
    ∙ ap (option_map number_value) is

plain-read : (text : List ℕ) (d : Number) → list_all is_number_byte text ≡ true → decimal_spelled text ≡ Some d → value_of text ≡ Some (number_value d)
plain-read text d all is = number-read text d (quote text all) (escape text all) (no-word text (letter text all).0 (letter text all).1) (no-date text all) (no-date (take 10 text) (take-all is_number_byte 10 text all)) is
  where
    quote : (bytes : List ℕ) → list_all is_number_byte bytes ≡ true → begins_with_quote bytes ≡ false
    quote [] h = refl
    quote (b ∷ bytes) h = no-quote b (and_parts (is_number_byte b) (list_all is_number_byte bytes) h).0

    escape : (bytes : List ℕ) → list_all is_number_byte bytes ≡ true → begins_with_escape bytes ≡ false
    escape [] h = refl
    escape (b ∷ bytes) h = ap (λ x. x && begins_with_quote bytes) (no-e b (and_parts (is_number_byte b) (list_all is_number_byte bytes) h).0)

    letter : (bytes : List ℕ) → list_all is_number_byte bytes ≡ true → (bytes ≢ codes "true") × (bytes ≢ codes "false")
    letter [] h = (λ same. cc, λ same. cc)
    letter (b ∷ bytes) h =
        let apart = no-letter b (and_parts (is_number_byte b) (list_all is_number_byte bytes) h).0 in
        (λ same. apart.0 cc, λ same. apart.1 cc)

minus-read : (text : List ℕ) (d : Number) → decimal_spelled (45 ∷ text) ≡ Some d → value_of (45 ∷ text) ≡ Some (number_value d)
minus-read text d is = number-read (45 ∷ text) d refl refl (no-word (45 ∷ text) (λ same. cc) (λ same. cc)) (no-minus-date text) (no-minus-date (take 9 text)) is

own : IsNumeralModel (λ ds. list_all is_ascii_digit ds ≡ true) (read_on 0)
own = numerals_by_fold _ (search rules) read_on (search rules)

digits-number : (bytes : List ℕ) → list_all is_ascii_digit bytes ≡ true → list_all is_number_byte bytes ≡ true
digits-number [] all = refl
digits-number (b ∷ bytes) all =
    let parts = and_parts (is_ascii_digit b) (list_all is_ascii_digit bytes) all in
    and_from (is_number_byte b) (list_all is_number_byte bytes) (ap (λ x. x || b == 46) parts.0) (digits-number bytes parts.1)

fraction-number : (places n : ℕ) → n < 10 ^ places → list_all is_number_byte (fraction_text places n) ≡ true
fraction-number zero n within = refl
fraction-number (suc places) n within = digits-number (padded (suc places) n) (padded-digits (suc places) n within)

pub unsigned-number : (places n : ℕ) → n / 10 ^ places < 2 ^ 64 → list_all is_number_byte (unsigned_text places n) ≡ true
unsigned-number places n small =
    list_all-append is_number_byte (decimal (n / 10 ^ places)) (fraction_text places (n % 10 ^ places))
    ∙ and_from _ _ (digits-number (decimal (n / 10 ^ places)) (digits_decimal own (n / 10 ^ places) small)) (fraction-number places (n % 10 ^ places) (mod_below n (10 ^ places) (pow_some places)))

pub quotient_le : (n k : ℕ) → 0 < k → n / k ≤ n
quotient_le n k some = omega (arith, some)

pub fits-below : (n : ℕ) → fits_int (pos n) ≡ true → n < 2 ^ 64
fits-below n h = grind (arith, ints)

decimal-read : (mantissa : ℤ) (places : ℕ) → is_decimal (record { mantissa = mantissa; places = places }) ≡ true
    → value_of (decimal_text (record { mantissa = mantissa; places = places })) ≡ Some (number_value (record { mantissa = mantissa; places = places }))
decimal-read (pos n) places is =
    let outer = and_parts (fits_int (pos n) && nat_le places places_max) (is_reduced places n) is in
    let fits = fits-below n (and_parts (fits_int (pos n)) (nat_le places places_max) outer.0).0 in
    let small : n / 10 ^ places < 2 ^ 64 = let le = quotient_le n (10 ^ places) (pow_some places) in omega (arith, le, fits) in
    plain-read (unsigned_text places n) (record { mantissa = pos n; places = places }) (unsigned-number places n small) (written_read (pos n) places is)
decimal-read (negsuc n) places is = minus-read (unsigned_text places (suc n)) (record { mantissa = negsuc n; places = places }) (written_read (negsuc n) places is)

-- a whole number is written as one without places
pub whole-text : (n : ℤ) → decimal_text (record { mantissa = n; places = 0 }) ≡ signed_decimal n
whole-text (pos n) = append-nil (decimal (n / 10 ^ 0)) ∙ ap decimal (div-one n)
whole-text (negsuc n) = ap (λ (t : List ℕ). 45 ∷ t) (append-nil (decimal (suc n / 10 ^ 0)) ∙ ap decimal (div-one (suc n)))

int-read : (n : ℤ) → fits_int n ≡ true → value_of (signed_decimal n) ≡ Some (Int n)
int-read n fits = ap value_of (sym (whole-text n)) ∙ decimal-read n 0 (ap (λ b. b && true && true) fits)

no-places : (n : ℕ) → nat_lt 0 n ≡ true → (n == 0) ≡ false
no-places n some = grind (arith, nat_tests)

fraction-read : (d : Number) → is_fraction d ≡ true → value_of (decimal_text d) ≡ Some (Decimal d)
fraction-read d is =
    let parts = and_parts (is_decimal d) (nat_lt 0 d.places) is in
    decimal-read d.mantissa d.places parts.0 ∙ ap (λ b. Some (if b then Int d.mantissa else Decimal d)) (no-places d.places parts.1)

-- ---- days and moments

begins-day : (n : ℕ) → (48 + n == 39) ≡ false
begins-day n = grind (arith, nat_tests)

-- its second byte is no quote either
second-day : (first : Truth) (n : ℕ) → (first && 48 + n == 39) ≡ false
second-day true n = begins-day n
second-day false n = refl

day-read : (day : Day) → is_day day ≡ true → value_of (date_text day) ≡ Some (Date day)
day-read day is =
    let text = date_text day in
    no-text text (begins-day (day.year / 100 / 10)) (second-day (48 + day.year / 100 / 10 == 69) (day.year / 100 % 10))
    ∙ ap (λ o. or_else o (or_else (date_of text) (or_else (datetime_of text) (number_of text)))) (no-word text (λ same. cc) (λ same. cc))
    ∙ ap (λ o. or_else (option_map Date o) (or_else (datetime_of text) (number_of text))) (date_read day.year day.month day.day is)

moment-read : (moment : Moment) → is_moment moment ≡ true → value_of (datetime_text moment) ≡ Some (DateTime moment)
moment-read moment is =
    let text = datetime_text moment in
    no-text text (begins-day (moment.date.year / 100 / 10)) (second-day (48 + moment.date.year / 100 / 10 == 69) (moment.date.year / 100 % 10))
    ∙ ap (λ o. or_else o (or_else (date_of text) (or_else (datetime_of text) (number_of text)))) (no-word text (λ same. cc) (λ same. cc))
    ∙ ap (λ o. or_else (option_map DateTime o) (number_of text)) (datetime_read moment is)

-- ---- values

pub value-read : (column_type : ColumnType) (value : AttrValue) → is_of_type column_type value ≡ true → value_of (value_text value) ≡ Some value
value-read types.Int (Int n) is = int-read n is
value-read types.Decimal (Int n) is = int-read n is
value-read types.Text (Text text) is =
    text-read text (and_parts (nat_le (length text) text_max) (is_utf8 text) (and_parts (nat_le (length text) text_max && is_utf8 text) (list_all is_text_byte text) is).0).1
value-read types.Int (Text text) is = absurd cc
value-read types.Decimal (Text text) is = absurd cc
value-read types.Bool (Text text) is = absurd cc
value-read types.Date (Text text) is = absurd cc
value-read types.DateTime (Text text) is = absurd cc
value-read types.Decimal (Decimal d) is = fraction-read d is
value-read column_type (Bool true) is = refl
value-read column_type (Bool false) is = refl
value-read types.Date (Date day) is = day-read day is
value-read types.DateTime (DateTime moment) is = moment-read moment is
value-read types.Int (Decimal d) is = absurd cc
value-read types.Int (Date day) is = absurd cc
value-read types.Int (DateTime moment) is = absurd cc
value-read types.Text (Int n) is = absurd cc
value-read types.Text (Decimal d) is = absurd cc
value-read types.Text (Date day) is = absurd cc
value-read types.Text (DateTime moment) is = absurd cc
value-read types.Decimal (Date day) is = absurd cc
value-read types.Decimal (DateTime moment) is = absurd cc
value-read types.Bool (Int n) is = absurd cc
value-read types.Bool (Decimal d) is = absurd cc
value-read types.Bool (Date day) is = absurd cc
value-read types.Bool (DateTime moment) is = absurd cc
value-read types.Date (Int n) is = absurd cc
value-read types.Date (Decimal d) is = absurd cc
value-read types.Date (DateTime moment) is = absurd cc
value-read types.DateTime (Int n) is = absurd cc
value-read types.DateTime (Decimal d) is = absurd cc
value-read types.DateTime (Date day) is = absurd cc
