-- The text of a value has no control character.
use Rattle.std.proofs.Common.{◌≡◌, ℕ, suc, ◌+◌, ◌/◌, ◌%◌, ◌^◌, ◌<◌, ℤ, pos, negsuc, Bool as Truth, true, false, ◌&&◌, List, [], ◌∷◌, ◌++◌, flat_map, refl, ap, ◌∙◌, sym, arith}
use Rattle.std.specs.Prelude.{◌==◌, ◌||◌, nat_le, nat_lt}
use Rattle.std.specs.Char.{digit_char}
use Rattle.std.specs.Fmt.{signed_decimal}
use Rattle.std.specs.List.{list_all, list_any}
use Rattle.std.proofs.lemmas.Bool.{and_parts}
use Rattle.std.proofs.lemmas.Bool.Decides.{nat_tests}
use Rattle.std.proofs.lemmas.Grind.{common_steps}
use Rattle.std.proofs.lemmas.Int.{ints}
use Rattle.std.proofs.lemmas.List.Folds.{list_any-append}
use Rattle.sf_dates.specs.declared.day.Day.{Day}
use Rattle.sf_dates.specs.declared.moment.Moment.{Moment}
use Rattle.sf_dates.specs.Calendar.{day_milliseconds, is_day, is_moment}
use Rattle.sf_dates.specs.Texts.{date_text, datetime_text, four_digits, millisecond_text, second_text, three_digits, two_digits}
use Rattle.sf_dates.proofs.Days.{Small, small_from}
use Rattle.sf_dates.proofs.Numbers.{lt_from}
use Rattle.sf_decimals.specs.declared.number.Number.{Number}
use Rattle.sf_decimals.specs.Decimals.{decimal_text, fits_int, is_decimal, is_fraction, is_reduced, magnitude, places_max, unsigned_text}
use Rattle.sf_decimals.proofs.Digits.{pow_some}
use Rattle.sf_features.specs.declared.column_type.ColumnType.{ColumnType}
use Rattle.sf_features.specs.declared.column_type.ColumnType.TheVariants as types
use Rattle.sf_features.specs.declared.attr_value.AttrValue.{AttrValue}
use Rattle.sf_features.specs.declared.attr_value.AttrValue.TheVariants.{Int, Text, Decimal, Bool, Date, DateTime}
use Rattle.sf_features.specs.Values.{is_of_type}
use Rattle.sf_values.specs.Escapes.{code_of, escape_of, escaped, escaped_byte, is_control, is_unescaped}
use Rattle.sf_values.specs.Values.{quoted, quoted_byte, value_text, written_text}
use Rattle.sf_values.proofs.Escapes.{chosen, special-small}
use Rattle.sf_values.proofs.WrittenValues.{fits-below, is_number_byte, quotient_le, unsigned-number, whole-text}

-- bytes of one line
abbrev pub IsLine : List ℕ → Type 0
IsLine bytes = list_any is_control bytes ≡ false

append-line : (xs ys : List ℕ) → IsLine xs → IsLine ys → IsLine (xs ++ ys)
append-line xs ys one other = list_any-append is_control xs ys ∙ ap (λ x. x || list_any is_control ys) one ∙ other

more-line : (b : ℕ) (bytes : List ℕ) → is_control b ≡ false → IsLine bytes → IsLine (b ∷ bytes)
more-line b bytes one other = ap (λ x. x || list_any is_control bytes) one ∙ other

-- ---- texts

each-line : (written : ℕ → List ℕ) (plain : ℕ → Truth) → ((b : ℕ) → plain b ≡ true → IsLine (written b)) → (text : List ℕ) → list_all plain text ≡ true → IsLine (flat_map written text)
each-line written plain one [] all = refl
each-line written plain one (b ∷ text) all =
    let parts = and_parts (plain b) (list_all plain text) all in
    append-line (written b) (flat_map written text) (one b parts.0) (each-line written plain one text parts.1)

quoted-inner : (text : List ℕ) → IsLine text → IsLine (flat_map quoted_byte text)
quoted-inner [] line = refl
quoted-inner (b ∷ text) line =
    let parts = apart (is_control b) (list_any is_control text) line in
    append-line (quoted_byte b) (flat_map quoted_byte text) (chosen IsLine (b == 39) (39 ∷ 39 ∷ []) (b ∷ []) (λ is. refl) λ is. more-line b [] parts.0 refl) (quoted-inner text parts.1)
  where
    apart : (x y : Truth) → (x || y) ≡ false → (x ≡ false) × (y ≡ false)
    apart true y is = absurd cc
    apart false y is = (refl, is)

no-control : (b : ℕ) → is_unescaped b ≡ true → is_control b ≡ false
no-control b is = grind (arith, nat_tests, common_steps)

digit-line : (d : ℕ) → d < 16 → is_control (digit_char d) ≡ false
digit-line d small = grind (arith, nat_tests, common_steps)

code-line : (b : ℕ) → b < 128 → IsLine (code_of b)
code-line b small =
    more-line (digit_char (b / 16)) (digit_char (b % 16) ∷ []) (digit-line (b / 16) (omega (arith, small)))
    (more-line (digit_char (b % 16)) [] (digit-line (b % 16) (omega arith)) refl)

escape-line : (b : ℕ) → b < 128 → IsLine (escape_of b)
escape-line b small =
    chosen IsLine (b == 10) _ _ (λ _. refl) λ _. chosen IsLine (b == 9) _ _ (λ _. refl) λ _. chosen IsLine (b == 13) _ _ (λ _. refl)
    λ _. chosen IsLine (b == 92) _ _ (λ _. refl) λ _. chosen IsLine (b == 39) _ _ (λ _. refl) λ _. code-line b small

escaped-inner : (text : List ℕ) → IsLine (flat_map escaped_byte text)
escaped-inner [] = refl
escaped-inner (b ∷ text) =
    append-line (escaped_byte b) (flat_map escaped_byte text)
    (chosen IsLine (is_unescaped b) _ _ (λ is. more-line b [] (no-control b is) refl) λ is. escape-line b (special-small b is))
    (escaped-inner text)

text-line : (text : List ℕ) → IsLine (written_text text)
text-line text = chosen IsLine (list_any is_control text) (escaped text) (quoted text)
    (λ is. append-line (flat_map escaped_byte text) (39 ∷ []) (escaped-inner text) refl)
    λ is. append-line (flat_map quoted_byte text) (39 ∷ []) (quoted-inner text is) refl

-- ---- numbers

number-line : (bytes : List ℕ) → list_all is_number_byte bytes ≡ true → IsLine bytes
number-line [] all = refl
number-line (b ∷ bytes) all =
    let parts = and_parts (is_number_byte b) (list_all is_number_byte bytes) all in
    more-line b bytes (calm parts.0) (number-line bytes parts.1)
  where
    calm : is_number_byte b ≡ true → is_control b ≡ false
    calm is = grind (arith, nat_tests, common_steps)

unsigned-line : (places n : ℕ) → n < 2 ^ 64 → IsLine (unsigned_text places n)
unsigned-line places n fits =
    let small : n / 10 ^ places < 2 ^ 64 = let le = quotient_le n (10 ^ places) (pow_some places) in omega (arith, le, fits) in
    number-line (unsigned_text places n) (unsigned-number places n small)

fits-beyond : (n : ℕ) → fits_int (negsuc n) ≡ true → suc n < 2 ^ 64
fits-beyond n h = grind (arith, ints)

decimal-line : (mantissa : ℤ) (places : ℕ) → fits_int mantissa ≡ true → IsLine (decimal_text (record { mantissa = mantissa; places = places }))
decimal-line (pos n) places fits = unsigned-line places n (fits-below n fits)
decimal-line (negsuc n) places fits = unsigned-line places (suc n) (fits-beyond n fits)

int-line : (n : ℤ) → fits_int n ≡ true → IsLine (signed_decimal n)
int-line n fits = ap (list_any is_control) (sym (whole-text n)) ∙ decimal-line n 0 fits

fraction-line : (d : Number) → is_fraction d ≡ true → IsLine (decimal_text d)
fraction-line d is =
    let outer = and_parts (is_decimal d) (nat_lt 0 d.places) is in
    let inner = and_parts (fits_int d.mantissa && nat_le d.places places_max) (is_reduced d.places (magnitude d.mantissa)) outer.0 in
    decimal-line d.mantissa d.places (and_parts (fits_int d.mantissa) (nat_le d.places places_max) inner.0).0

-- ---- days and moments

ten-line : (d : ℕ) → d < 10 → is_control (48 + d) ≡ false
ten-line d small = grind (arith, nat_tests, common_steps)

two-line : (n : ℕ) → n < 100 → IsLine (two_digits n)
two-line n small =
    more-line (48 + n / 10) ((48 + n % 10) ∷ []) (ten-line (n / 10) (omega (arith, small)))
    (more-line (48 + n % 10) [] (ten-line (n % 10) (omega arith)) refl)

three-line : (n : ℕ) → n < 1000 → IsLine (three_digits n)
three-line n small = more-line (48 + n / 100) (two_digits (n % 100)) (ten-line (n / 100) (omega (arith, small))) (two-line (n % 100) (omega arith))

four-line : (n : ℕ) → n < 10000 → IsLine (four_digits n)
four-line n small = append-line (two_digits (n / 100)) (two_digits (n % 100)) (two-line (n / 100) (omega (arith, small))) (two-line (n % 100) (omega arith))

parts-line : (y m d : ℕ) → Small y m d → IsLine (date_text (record { year = y; month = m; day = d }))
parts-line y m d small =
    append-line (four_digits y) (45 ∷ two_digits m ++ (45 ∷ two_digits d)) (four-line y small.year)
    (append-line (two_digits m) (45 ∷ two_digits d) (two-line m small.month) (two-line d small.day))

day-line : (day : Day) → is_day day ≡ true → IsLine (date_text day)
day-line day is = parts-line day.year day.month day.day (small_from day.year day.month day.day is)

second-line : (s : ℕ) → s < 86400 → IsLine (second_text s)
second-line s small =
    append-line (two_digits (s / 3600)) (58 ∷ two_digits (s / 60 % 60) ++ (58 ∷ two_digits (s % 60))) (two-line (s / 3600) (omega (arith, small)))
    (append-line (two_digits (s / 60 % 60)) (58 ∷ two_digits (s % 60)) (two-line (s / 60 % 60) (below (s / 60))) (two-line (s % 60) (below s)))
  where
    below : (n : ℕ) → n % 60 < 100
    below n = omega arith

millisecond-line : (n : ℕ) → n < 1000 → IsLine (millisecond_text n)
millisecond-line n small = append-line (three_digits n) (90 ∷ []) (three-line n small) refl

moment-line : (moment : Moment) → is_moment moment ≡ true → IsLine (datetime_text moment)
moment-line moment is =
    let parts = and_parts (is_day moment.date) (nat_lt moment.millisecond day_milliseconds) is in
    let below = lt_from moment.millisecond day_milliseconds parts.1 in
    append-line (date_text moment.date) (second_text (moment.millisecond / 1000) ++ millisecond_text (moment.millisecond % 1000)) (day-line moment.date parts.0)
    (append-line (second_text (moment.millisecond / 1000)) (millisecond_text (moment.millisecond % 1000))
    (second-line (moment.millisecond / 1000) (omega (arith, below))) (millisecond-line (moment.millisecond % 1000) (omega arith)))

-- ---- values

pub value-line : (column_type : ColumnType) (value : AttrValue) → is_of_type column_type value ≡ true → IsLine (value_text value)
value-line column_type (Text text) is = text-line text
value-line column_type (Bool true) is = refl
value-line column_type (Bool false) is = refl
value-line types.Int (Int n) is = int-line n is
value-line types.Decimal (Int n) is = int-line n is
value-line types.Decimal (Decimal d) is = fraction-line d is
value-line types.Date (Date day) is = day-line day is
value-line types.DateTime (DateTime moment) is = moment-line moment is
value-line types.Int (Decimal d) is = absurd cc
value-line types.Int (Date day) is = absurd cc
value-line types.Int (DateTime moment) is = absurd cc
value-line types.Text (Int n) is = absurd cc
value-line types.Text (Decimal d) is = absurd cc
value-line types.Text (Date day) is = absurd cc
value-line types.Text (DateTime moment) is = absurd cc
value-line types.Decimal (Date day) is = absurd cc
value-line types.Decimal (DateTime moment) is = absurd cc
value-line types.Bool (Int n) is = absurd cc
value-line types.Bool (Decimal d) is = absurd cc
value-line types.Bool (Date day) is = absurd cc
value-line types.Bool (DateTime moment) is = absurd cc
value-line types.Date (Int n) is = absurd cc
value-line types.Date (Decimal d) is = absurd cc
value-line types.Date (DateTime moment) is = absurd cc
value-line types.DateTime (Int n) is = absurd cc
value-line types.DateTime (Decimal d) is = absurd cc
value-line types.DateTime (Date day) is = absurd cc
