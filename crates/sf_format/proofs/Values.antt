-- The bytes of a value are read as that value, and what is read of a column is a value of its type.
use Rattle.std.proofs.Common.{SFits, ◌≡◌, ℕ, ◌<◌, ◌≤◌, ◌^◌, Bool, true, false, ◌&&◌, ℤ, pos, negsuc, List, ◌++◌, length, IsTrue, None, Ok, Some, refl, ap, sym, subst, ◌∙◌, arith}
use Rattle.std.specs.Prelude.{◌==◌, ◌||◌, if◌then◌else◌, nat_eq, nat_le, nat_lt}
use Rattle.std.specs.Int.{w64, cast_signed, cast_unsigned}
use Rattle.std.specs.List.{list_all}
use Rattle.std.specs.Str.{is_utf8}
use Rattle.std.proofs.lemmas.Bool.{leb-true, ltb-true}
use Rattle.std.proofs.lemmas.Bool.Decides.{nat_tests}
use Rattle.std.proofs.lemmas.Int.{ints, to_z-of_z}
use mir.ValLaws as laws
use borrow.Author.Gap.{read_sfits}
use Rattle.byteorder.specs.Endian.{big_bytes}
use Rattle.sf_dates.specs.declared.day.Day.{Day}
use Rattle.sf_dates.specs.declared.moment.Moment.{Moment}
use Rattle.sf_dates.specs.Calendar.{day_milliseconds, is_day, is_leap, is_moment, month_days}
use Rattle.sf_decimals.specs.declared.number.Number.{Number}
use Rattle.sf_decimals.specs.Decimals.{fits_int, is_decimal, is_reduced, magnitude, places_max}
use Rattle.sf_features.specs.declared.column_type.ColumnType.{ColumnType}
use Rattle.sf_features.specs.declared.column_type.ColumnType.TheVariants as types
use Rattle.sf_features.specs.declared.attr_value.AttrValue.{AttrValue}
use Rattle.sf_features.specs.declared.attr_value.AttrValue.TheVariants as values
use Rattle.sf_features.specs.Values.{is_attr_text, is_of_type, is_text_byte, number_value, text_max}
use Rattle.sf_format.specs.declared.defect.Defect.TheVariants.{WrongValue}
use Rattle.sf_format.specs.Readings.{bytes, done, number}
use Rattle.sf_format.specs.Laws.{AreBytes}
use Rattle.sf_format.specs.Format.{allowed, bool_of_byte, date_parts, day_in, decimal_in, decimal_parts, moment_in, moment_parts, present, signed_number, type_of_byte, typed_value, text_bytes}
use Rattle.sf_format.specs.Canonical.{behind_length, date_bytes, decimal_bytes, int_bytes, is_decimal_type, moment_bytes, type_byte, typed_bytes}
use Rattle.sf_format.proofs.Again.{Again, Again-bytes, Again-field, Again-made, Again-number, Again-number_field, Again-then, Again-value}
use Rattle.sf_format.proofs.Continuations.{date_after_month, date_after_year, decimal_after_mantissa, moment_after_date}
use Rattle.sf_format.proofs.Promises.{Promises, Promises-bytes, Promises-done, Promises-field, Promises-number, Promises-rule, Promises-then}
use Rattle.sf_format.proofs.Rules.{allowed-ok, allowed_of, both, both_of, present_of}

-- ---- texts and numbers

pub text-short : (text : List ℕ) → is_attr_text text ≡ true → length text ≤ text_max
text-short text is =
    let front = both_of (nat_le (length text) text_max && is_utf8 text) (list_all is_text_byte text) is in
    leb-true (length text) text_max (both_of (nat_le (length text) text_max) (is_utf8 text) front.0).0

fits-signed : (n : ℤ) → fits_int n ≡ true → SFits w64 n
fits-signed (pos n) h = record { sfits = grind (arith, ints) }
fits-signed (negsuc n) h = record { sfits = grind (arith, ints) }

signed-again : (m : ℤ) → fits_int m ≡ true → Again signed_number (big_bytes 8 (cast_unsigned w64 m)) m
signed-again m fits =
    Again-value signed_number (big_bytes 8 (cast_unsigned w64 m)) (cast_signed w64 (cast_unsigned w64 m)) m (to_z-of_z w64 m (fits-signed m fits))
    (Again-made (number 8) (cast_signed w64) (big_bytes 8 (cast_unsigned w64 m)) (cast_unsigned w64 m) (Again-number 8 (cast_unsigned w64 m) (laws.of_z_fits w64 m (fits-signed m fits)).fits))

pub parts-again : (m : ℤ) (places : ℕ) → fits_int m ≡ true → places < 256
    → Again decimal_parts (big_bytes 8 (cast_unsigned w64 m) ++ big_bytes 1 places) (record { mantissa = m; places = places })
parts-again m places fits few =
    Again-then signed_number decimal_after_mantissa (big_bytes 8 (cast_unsigned w64 m)) (big_bytes 1 places) m (record { mantissa = m; places = places }) (signed-again m fits)
    (Again-made (number 1) (λ p. record { mantissa = m; places = p }) (big_bytes 1 places) places (Again-number 1 places (omega (arith, few))))

-- a number of 64 bits without places is in its one form
whole-decimal : (n : ℤ) → fits_int n ≡ true → is_decimal (record { mantissa = n; places = 0 }) ≡ true
whole-decimal n fits = ap (λ b. b && true && true) fits

-- the parts of what says that a number is in its one form
pub decimal-parts : (d : Number) → is_decimal d ≡ true → (fits_int d.mantissa ≡ true) × (d.places ≤ 18)
decimal-parts d is =
    let outer = both_of (fits_int d.mantissa && nat_le d.places places_max) (is_reduced d.places (magnitude d.mantissa)) is in
    let inner = both_of (fits_int d.mantissa) (nat_le d.places places_max) outer.0 in
    (inner.0, leb-true d.places places_max inner.1)

-- a number with places is no whole one
pub with-places : (n : ℕ) → nat_lt 0 n ≡ true → (n == 0) ≡ false
with-places n h = grind (arith, nat_tests)

without-places : (n : ℕ) → (n == 0) ≡ false → nat_lt 0 n ≡ true
without-places n h = grind (arith, nat_tests)

pub fraction-value : (d : Number) → nat_lt 0 d.places ≡ true → number_value d ≡ values.Decimal d
fraction-value d some = ap (λ b. if b then values.Int d.mantissa else values.Decimal d) (with-places d.places some)

-- ---- days

days-few : (second leap short : Bool) → (if second then (if leap then 29 else 28) else if short then 30 else 31) ≤ 31
days-few true true short = omega arith
days-few true false short = omega arith
days-few false leap true = omega arith
days-few false leap false = omega arith

month_days-few : (leap : Bool) (month : ℕ) → month_days leap month ≤ 31
month_days-few leap month = days-few (month == 2) leap (month == 4 || month == 6 || month == 9 || month == 11)

-- the parts of a day fit their bytes
day-fits : (d : Day) → is_day d ≡ true → (d.year < 65536) × (d.month < 256) × (d.day < 256)
day-fits d is =
    let five = both_of (nat_le 1 d.year && nat_le d.year 9999 && nat_le 1 d.month && nat_le d.month 12 && nat_le 1 d.day) (nat_le d.day (month_days (is_leap d.year) d.month)) is in
    let four = both_of (nat_le 1 d.year && nat_le d.year 9999 && nat_le 1 d.month && nat_le d.month 12) (nat_le 1 d.day) five.0 in
    let three = both_of (nat_le 1 d.year && nat_le d.year 9999 && nat_le 1 d.month) (nat_le d.month 12) four.0 in
    let two = both_of (nat_le 1 d.year && nat_le d.year 9999) (nat_le 1 d.month) three.0 in
    let one = both_of (nat_le 1 d.year) (nat_le d.year 9999) two.0 in
    let year : d.year ≤ 9999 = leb-true d.year 9999 one.1 in
    let month : d.month ≤ 12 = leb-true d.month 12 three.1 in
    let day : d.day ≤ month_days (is_leap d.year) d.month = leb-true d.day (month_days (is_leap d.year) d.month) five.1 in
    (omega (arith, year), omega (arith, month), omega (arith, day, month_days-few (is_leap d.year) d.month))

date-again : (d : Day) → is_day d ≡ true → Again date_parts (date_bytes d) d
date-again d is =
    let fits = day-fits d is in
    Again-then (number 2) date_after_year (big_bytes 2 d.year) (big_bytes 1 d.month ++ big_bytes 1 d.day) d.year d
    (Again-number 2 d.year (omega (arith, fits.0)))
    (Again-then (number 1) (date_after_month d.year) (big_bytes 1 d.month) (big_bytes 1 d.day) d.month d
    (Again-number 1 d.month (omega (arith, fits.1)))
    (Again-made (number 1) (λ day. record { year = d.year; month = d.month; day = day }) (big_bytes 1 d.day) d.day (Again-number 1 d.day (omega (arith, fits.2)))))

-- the parts of a moment
moment-parts : (m : Moment) → is_moment m ≡ true → (is_day m.date ≡ true) × (m.millisecond < 4294967296)
moment-parts m is =
    let parts = both_of (is_day m.date) (nat_lt m.millisecond day_milliseconds) is in
    let below : m.millisecond < 86400000 = ltb-true m.millisecond 86400000 parts.1 in
    (parts.0, omega (arith, below))

moment-again : (m : Moment) → is_moment m ≡ true → Again moment_parts (moment_bytes m) m
moment-again m is =
    let parts = moment-parts m is in
    Again-then date_parts moment_after_date (date_bytes m.date) (big_bytes 4 m.millisecond) m.date m (date-again m.date parts.0)
    (Again-made (number 4) (λ n. record { date = m.date; millisecond = n }) (big_bytes 4 m.millisecond) m.millisecond (Again-number 4 m.millisecond (omega (arith, parts.1))))

-- ---- types

pub type_byte-fits : (t : ColumnType) → type_byte t < 256
type_byte-fits types.Int = omega arith
type_byte-fits types.Text = omega arith
type_byte-fits types.Decimal = omega arith
type_byte-fits types.Bool = omega arith
type_byte-fits types.Date = omega arith
type_byte-fits types.DateTime = omega arith

pub type-again : (t : ColumnType) → present (type_of_byte (type_byte t)) WrongValue ≡ Ok t
type-again types.Int = refl
type-again types.Text = refl
type-again types.Decimal = refl
type-again types.Bool = refl
type-again types.Date = refl
type-again types.DateTime = refl

-- ---- values of a type

pub there : {b : Bool} (v : AttrValue) → b ≡ true → present (if b then Some v else None) WrongValue ≡ Ok v
there v is = ap (λ b. present (if b then Some v else None) WrongValue) is

-- what a test has let pass
let-pass : {b : Bool} (v w : AttrValue) → (if b then Some v else None) ≡ Some w → (b ≡ true) × (v ≡ w)
let-pass {b} v w is = by b is
  where
    by : (x : Bool) → (if x then Some v else None) ≡ Some w → (x ≡ true) × (v ≡ w)
    by true h = (refl, cc)
    by false h = absurd cc

pub typed-again : (t : ColumnType) (v : AttrValue) → is_of_type t v ≡ true → Again (typed_value t) (typed_bytes (is_decimal_type t) v) v
typed-again types.Int (values.Int n) is =
    Again-value (typed_value types.Int) (big_bytes 8 (cast_unsigned w64 n)) _ (values.Int n) (ap values.Int (to_z-of_z w64 n (fits-signed n is)))
    (Again-made (number 8) (λ n. values.Int (cast_signed w64 n)) (big_bytes 8 (cast_unsigned w64 n)) (cast_unsigned w64 n) (Again-number 8 (cast_unsigned w64 n) (laws.of_z_fits w64 n (fits-signed n is)).fits))
typed-again types.Text (values.Text text) is =
    Again-field text_bytes (λ text. allowed (is_attr_text text) WrongValue (values.Text text)) (behind_length 2 text) text (values.Text text)
    (Again-then (number 2) bytes (big_bytes 2 (length text)) text (length text) text (Again-number 2 (length text) (omega (arith, text-short text is))) (Again-bytes (length text) text refl))
    (allowed-ok (is_attr_text text) WrongValue (values.Text text) is)
typed-again types.Decimal (values.Int n) is =
    Again-field decimal_parts (λ parts. present (decimal_in parts) WrongValue) (int_bytes true n) (record { mantissa = n; places = 0 }) (values.Int n)
    (parts-again n 0 is (omega arith)) (there (values.Int n) (whole-decimal n is))
typed-again types.Decimal (values.Decimal d) is =
    let parts = both_of (is_decimal d) (nat_lt 0 d.places) is in
    let inner = decimal-parts d parts.0 in
    Again-field decimal_parts (λ parts. present (decimal_in parts) WrongValue) (decimal_bytes d) d (values.Decimal d)
    (parts-again d.mantissa d.places inner.0 (omega (arith, inner.1))) (there (number_value d) parts.0 ∙ ap Ok (fraction-value d parts.1))
typed-again types.Bool (values.Bool false) is = Again-number_field 1 0 (λ byte. present (bool_of_byte byte) WrongValue) (values.Bool false) (omega arith) refl
typed-again types.Bool (values.Bool true) is = Again-number_field 1 1 (λ byte. present (bool_of_byte byte) WrongValue) (values.Bool true) (omega arith) refl
typed-again types.Date (values.Date d) is =
    Again-field date_parts (λ parts. present (day_in parts) WrongValue) (date_bytes d) d (values.Date d) (date-again d is) (there (values.Date d) is)
typed-again types.DateTime (values.DateTime m) is =
    Again-field moment_parts (λ parts. present (moment_in parts) WrongValue) (moment_bytes m) m (values.DateTime m) (moment-again m is) (there (values.DateTime m) is)
typed-again types.Int (values.Text text) is = absurd cc
typed-again types.Int (values.Decimal d) is = absurd cc
typed-again types.Int (values.Bool b) is = absurd cc
typed-again types.Int (values.Date d) is = absurd cc
typed-again types.Int (values.DateTime m) is = absurd cc
typed-again types.Text (values.Int n) is = absurd cc
typed-again types.Text (values.Decimal d) is = absurd cc
typed-again types.Text (values.Bool b) is = absurd cc
typed-again types.Text (values.Date d) is = absurd cc
typed-again types.Text (values.DateTime m) is = absurd cc
typed-again types.Decimal (values.Text text) is = absurd cc
typed-again types.Decimal (values.Bool b) is = absurd cc
typed-again types.Decimal (values.Date d) is = absurd cc
typed-again types.Decimal (values.DateTime m) is = absurd cc
typed-again types.Bool (values.Int n) is = absurd cc
typed-again types.Bool (values.Text text) is = absurd cc
typed-again types.Bool (values.Decimal d) is = absurd cc
typed-again types.Bool (values.Date d) is = absurd cc
typed-again types.Bool (values.DateTime m) is = absurd cc
typed-again types.Date (values.Int n) is = absurd cc
typed-again types.Date (values.Text text) is = absurd cc
typed-again types.Date (values.Decimal d) is = absurd cc
typed-again types.Date (values.Bool b) is = absurd cc
typed-again types.Date (values.DateTime m) is = absurd cc
typed-again types.DateTime (values.Int n) is = absurd cc
typed-again types.DateTime (values.Text text) is = absurd cc
typed-again types.DateTime (values.Decimal d) is = absurd cc
typed-again types.DateTime (values.Bool b) is = absurd cc
typed-again types.DateTime (values.Date d) is = absurd cc

-- ---- what is read is of the type

-- a number in its one form may stand in a column of decimals
number-typed : (d : Number) → is_decimal d ≡ true → is_of_type types.Decimal (number_value d) ≡ true
number-typed d is = by (d.places == 0) refl
  where
    by : (b : Bool) → (d.places == 0) ≡ b → is_of_type types.Decimal (number_value d) ≡ true
    by true whole = ap (λ b. is_of_type types.Decimal (if b then values.Int d.mantissa else values.Decimal d)) whole ∙ (decimal-parts d is).0
    by false some = ap (λ b. is_of_type types.Decimal (if b then values.Int d.mantissa else values.Decimal d)) some ∙ both (is_decimal d) (nat_lt 0 d.places) is (without-places d.places some)

pub decimal_in-typed : (d : Number) (v : AttrValue) → decimal_in d ≡ Some v → is_of_type types.Decimal v ≡ true
decimal_in-typed d v h = let r = let-pass (number_value d) v h in ap (is_of_type types.Decimal) (sym r.1) ∙ number-typed d r.0

pub day_in-typed : (d : Day) (v : AttrValue) → day_in d ≡ Some v → is_of_type types.Date v ≡ true
day_in-typed d v h = let r = let-pass (values.Date d) v h in ap (is_of_type types.Date) (sym r.1) ∙ r.0

pub moment_in-typed : (m : Moment) (v : AttrValue) → moment_in m ≡ Some v → is_of_type types.DateTime v ≡ true
moment_in-typed m v h = let r = let-pass (values.DateTime m) v h in ap (is_of_type types.DateTime) (sym r.1) ∙ r.0

-- a byte of a truth value stands for one
pub truth-typed : (byte : ℕ) (v : AttrValue) → bool_of_byte byte ≡ Some v → is_of_type types.Bool v ≡ true
truth-typed byte v is = by (nat_eq byte 0) (nat_eq byte 1) is
  where
    by : (a b : Bool) → (if a then Some (values.Bool false) else (if b then Some (values.Bool true) else None)) ≡ Some v → is_of_type types.Bool v ≡ true
    by true b is = let same : values.Bool false ≡ v = cc in ap (is_of_type types.Bool) (sym same)
    by false true is = let same : values.Bool true ≡ v = cc in ap (is_of_type types.Bool) (sym same)
    by false false is = absurd cc

pub decimal-promises : Promises decimal_parts (λ d. Unit {0})
decimal-promises = Promises-then signed_number decimal_after_mantissa (λ n. Unit {0}) (λ d. Unit {0})
    (Promises-then (number 8) (λ n. done (cast_signed w64 n)) (λ n. n < 256 ^ 8) (λ n. Unit {0}) (Promises-number 8) (λ n fits. Promises-done (λ n. Unit {0}) (cast_signed w64 n) tt))
    (λ m any. Promises-then (number 1) (λ places. done (record { mantissa = m; places = places })) (λ n. n < 256 ^ 1) (λ d. Unit {0}) (Promises-number 1)
    (λ places few. Promises-done {T = Number} (λ d. Unit {0}) (record { mantissa = m; places = places }) tt))

date-promises : Promises date_parts (λ d. Unit {0})
date-promises = Promises-then (number 2) date_after_year (λ n. n < 256 ^ 2) (λ d. Unit {0}) (Promises-number 2)
    (λ year few. Promises-then (number 1) (date_after_month year) (λ n. n < 256 ^ 1) (λ d. Unit {0}) (Promises-number 1)
    (λ month little. Promises-then (number 1) (λ day. done (record { year = year; month = month; day = day })) (λ n. n < 256 ^ 1) (λ d. Unit {0}) (Promises-number 1)
    (λ day less. Promises-done {T = Day} (λ d. Unit {0}) (record { year = year; month = month; day = day }) tt)))

moment-promises : Promises moment_parts (λ m. Unit {0})
moment-promises = Promises-then date_parts moment_after_date (λ d. Unit {0}) (λ m. Unit {0}) date-promises
    (λ day any. Promises-then (number 4) (λ n. done (record { date = day; millisecond = n })) (λ n. n < 256 ^ 4) (λ m. Unit {0}) (Promises-number 4)
    (λ n few. Promises-done {T = Moment} (λ m. Unit {0}) (record { date = day; millisecond = n }) tt))

fits-int : (n : ℤ) → SFits w64 n → fits_int n ≡ true
fits-int (pos n) h = let below : n < 2 ^ 63 = h.sfits in grind (arith, ints)
fits-int (negsuc n) h = let below : n < 2 ^ 63 = h.sfits in grind (arith, ints)

pub typed-promises : (t : ColumnType) → Promises (typed_value t) (λ v. IsTrue (is_of_type t v))
typed-promises types.Int = Promises-then (number 8) (λ n. done (values.Int (cast_signed w64 n))) (λ n. n < 256 ^ 8) (λ v. IsTrue (is_of_type types.Int v)) (Promises-number 8)
    (λ n fits. Promises-done (λ v. IsTrue (is_of_type types.Int v)) (values.Int (cast_signed w64 n)) (fits-int (cast_signed w64 n) (read_sfits w64 n)))
typed-promises types.Text = Promises-field text_bytes (λ text. allowed (is_attr_text text) WrongValue (values.Text text)) AreBytes (λ v. IsTrue (is_of_type types.Text v))
    (Promises-then (number 2) bytes (λ n. n < 256 ^ 2) AreBytes (Promises-number 2) (λ size fits. Promises-bytes size))
    (λ x y fits e. let r = allowed_of (is_attr_text x) WrongValue (values.Text x) y e in subst (λ v. IsTrue (is_of_type types.Text v)) r.1 r.0)
typed-promises types.Decimal = Promises-field decimal_parts (λ parts. present (decimal_in parts) WrongValue) (λ d. Unit {0}) (λ v. IsTrue (is_of_type types.Decimal v)) decimal-promises
    (λ x y any e. decimal_in-typed x y (present_of (decimal_in x) WrongValue y e))
typed-promises types.Bool = Promises-rule 1 (λ byte. present (bool_of_byte byte) WrongValue) (λ v. IsTrue (is_of_type types.Bool v)) (λ n y fits e. truth-typed n y (present_of (bool_of_byte n) WrongValue y e))
typed-promises types.Date = Promises-field date_parts (λ parts. present (day_in parts) WrongValue) (λ d. Unit {0}) (λ v. IsTrue (is_of_type types.Date v)) date-promises
    (λ x y any e. day_in-typed x y (present_of (day_in x) WrongValue y e))
typed-promises types.DateTime = Promises-field moment_parts (λ parts. present (moment_in parts) WrongValue) (λ m. Unit {0}) (λ v. IsTrue (is_of_type types.DateTime v)) moment-promises
    (λ x y any e. moment_in-typed x y (present_of (moment_in x) WrongValue y e))
