-- Two values that are equal in order are one value.
use Rattle.std.proofs.Common.{◌≡◌, ℕ, ℤ, true, false, ◌&&◌, refl, sym, ap, ◌∙◌, true≢false}
use Rattle.std.specs.Prelude.{Bool, nat_lt}
use Rattle.std.specs.Ordering.{bool_cmp, nat_cmp, ordering_then}
use Rattle.std.specs.declared.cmp.Ordering.{Ordering}
use Rattle.std.specs.declared.cmp.Ordering.TheVariants.{Less, Equal, Greater}
use Rattle.std.specs.FinMap.{int_cmp-IsAntisymmetric, nat_cmp-IsAntisymmetric, slice_cmp-IsAntisymmetric}
use Rattle.std.proofs.lemmas.Bool.{and_parts}
use Rattle.sf_dates.specs.Calendar.{day_cmp, moment_cmp}
use Rattle.sf_dates.specs.declared.day.Day.{Day}
use Rattle.sf_dates.specs.declared.moment.Moment.{Moment}
use Rattle.sf_decimals.specs.Decimals.{IsDecimal, fits_int, is_decimal, is_fraction, scaled}
use Rattle.sf_decimals.specs.declared.number.Number.{Number}
use Rattle.sf_decimals.proofs.OneForm.{same_form}
use Rattle.sf_features.specs.declared.attr_value.AttrValue.{AttrValue}
use Rattle.sf_features.specs.declared.attr_value.AttrValue.TheVariants.{Int, Text, Decimal, Bool as Truth, Date, DateTime}
use Rattle.sf_features.specs.declared.column_type.ColumnType.{ColumnType}
use Rattle.sf_features.specs.declared.column_type.ColumnType.TheVariants as types
use Rattle.sf_features.specs.Order.{number_cmp, value_cmp}
use Rattle.sf_features.specs.Values.{is_of_type}

-- ---- orders one behind another

first_equal : (r s : Ordering) → ordering_then r s ≡ Equal → (r ≡ Equal) × (s ≡ Equal)
first_equal Less s h = absurd cc
first_equal Equal s h = (refl, h)
first_equal Greater s h = absurd cc

one_day : (a b : Day) → day_cmp a b ≡ Equal → a ≡ b
one_day a b h =
    let outer = first_equal (ordering_then (nat_cmp a.year b.year) (nat_cmp a.month b.month)) (nat_cmp a.day b.day) h in
    let inner = first_equal (nat_cmp a.year b.year) (nat_cmp a.month b.month) outer.0 in
    ap (λ (n : ℕ). record { year = n; month = a.month; day = a.day }) (nat_cmp-IsAntisymmetric a.year b.year inner.0)
    ∙ ap (λ (n : ℕ). record { year = b.year; month = n; day = a.day }) (nat_cmp-IsAntisymmetric a.month b.month inner.1)
    ∙ ap (λ (n : ℕ). record { year = b.year; month = b.month; day = n }) (nat_cmp-IsAntisymmetric a.day b.day outer.1)

one_moment : (a b : Moment) → moment_cmp a b ≡ Equal → a ≡ b
one_moment a b h =
    let parts = first_equal (day_cmp a.date b.date) (nat_cmp a.millisecond b.millisecond) h in
    ap (λ (d : Day). record { date = d; millisecond = a.millisecond }) (one_day a.date b.date parts.0)
    ∙ ap (λ (n : ℕ). record { date = b.date; millisecond = n }) (nat_cmp-IsAntisymmetric a.millisecond b.millisecond parts.1)

one_truth : (a b : Bool) → bool_cmp a b ≡ Equal → a ≡ b
one_truth false false h = refl
one_truth false true h = absurd cc
one_truth true false h = absurd cc
one_truth true true h = refl

-- ---- numbers in their one form

abbrev number : ℤ → ℕ → Number
number mantissa places = record { mantissa = mantissa; places = places }

one_number : (a b : Number) → IsDecimal a → IsDecimal b → number_cmp a b ≡ Equal → a ≡ b
one_number a b is js h = same_form a.mantissa b.mantissa a.places b.places is js (int_cmp-IsAntisymmetric (scaled a) (scaled b) h)

-- a fraction has places, and a whole number none
no_fraction : (n : ℤ) (d : Number) → is_fraction d ≡ true → number n 0 ≡ d → ⊥
no_fraction n d is h =
    let places = (and_parts (is_decimal d) (nat_lt 0 d.places) is).1 in
    let none : 0 ≡ d.places = ap (λ (m : Number). m.places) h in
    true≢false (sym places ∙ ap (nat_lt 0) (sym none))

whole_form : (n : ℤ) → fits_int n ≡ true → IsDecimal (number n 0)
whole_form n h = ap (λ b. b && true && true) h

-- what is_of_type says of a value, whatever the type
abbrev IsForm : AttrValue → Type 0
IsForm (Int n) = fits_int n ≡ true
IsForm (Decimal d) = is_fraction d ≡ true
IsForm value = Unit {0}

form : (c : ColumnType) (a : AttrValue) → is_of_type c a ≡ true → IsForm a
form types.Int (Int n) h = h
form types.Decimal (Int n) h = h
form types.Decimal (Decimal d) h = h
form types.Text (Int n) h = absurd (true≢false (sym h))
form types.Bool (Int n) h = absurd (true≢false (sym h))
form types.Date (Int n) h = absurd (true≢false (sym h))
form types.DateTime (Int n) h = absurd (true≢false (sym h))
form types.Int (Decimal d) h = absurd (true≢false (sym h))
form types.Text (Decimal d) h = absurd (true≢false (sym h))
form types.Bool (Decimal d) h = absurd (true≢false (sym h))
form types.Date (Decimal d) h = absurd (true≢false (sym h))
form types.DateTime (Decimal d) h = absurd (true≢false (sym h))
form c (Text b) h = tt
form c (Truth b) h = tt
form c (Date d) h = tt
form c (DateTime m) h = tt

one : (a b : AttrValue) → IsForm a → IsForm b → value_cmp a b ≡ Equal → a ≡ b
one (Int a) (Int b) is js h = ap Int (int_cmp-IsAntisymmetric a b h)
one (Int a) (Decimal b) is js h = absurd (no_fraction a b js (one_number (number a 0) b (whole_form a is) (and_parts (is_decimal b) (nat_lt 0 b.places) js).0 h))
one (Decimal a) (Int b) is js h = absurd (no_fraction b a is (sym (one_number a (number b 0) (and_parts (is_decimal a) (nat_lt 0 a.places) is).0 (whole_form b js) h)))
one (Decimal a) (Decimal b) is js h = ap Decimal (one_number a b (and_parts (is_decimal a) (nat_lt 0 a.places) is).0 (and_parts (is_decimal b) (nat_lt 0 b.places) js).0 h)
one (Text a) (Text b) is js h = ap Text (slice_cmp-IsAntisymmetric nat_cmp-IsAntisymmetric a b h)
one (Truth a) (Truth b) is js h = ap Truth (one_truth a b h)
one (Date a) (Date b) is js h = ap Date (one_day a b h)
one (DateTime a) (DateTime b) is js h = ap DateTime (one_moment a b h)
one (Int a) (Text b) is js h = cc
one (Int a) (Truth b) is js h = cc
one (Int a) (Date b) is js h = cc
one (Int a) (DateTime b) is js h = cc
one (Decimal a) (Text b) is js h = cc
one (Decimal a) (Truth b) is js h = cc
one (Decimal a) (Date b) is js h = cc
one (Decimal a) (DateTime b) is js h = cc
one (Text a) (Int b) is js h = cc
one (Text a) (Decimal b) is js h = cc
one (Text a) (Truth b) is js h = cc
one (Text a) (Date b) is js h = cc
one (Text a) (DateTime b) is js h = cc
one (Truth a) (Int b) is js h = cc
one (Truth a) (Decimal b) is js h = cc
one (Truth a) (Text b) is js h = cc
one (Truth a) (Date b) is js h = cc
one (Truth a) (DateTime b) is js h = cc
one (Date a) (Int b) is js h = cc
one (Date a) (Decimal b) is js h = cc
one (Date a) (Text b) is js h = cc
one (Date a) (Truth b) is js h = cc
one (Date a) (DateTime b) is js h = cc
one (DateTime a) (Int b) is js h = cc
one (DateTime a) (Decimal b) is js h = cc
one (DateTime a) (Text b) is js h = cc
one (DateTime a) (Truth b) is js h = cc
one (DateTime a) (Date b) is js h = cc

pub one_value : (c d : ColumnType) (a b : AttrValue) → is_of_type c a ≡ true → is_of_type d b ≡ true → value_cmp a b ≡ Equal → a ≡ b
one_value c d a b is js h = one a b (form c a is) (form d b js) h
