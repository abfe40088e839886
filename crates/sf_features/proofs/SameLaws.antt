-- Two values are one exactly where the test of that says so.
use Rattle.std.proofs.Common.{◌≡◌, ℕ, ℤ, true, ◌&&◌, refl, ap, ◌∙◌, arith}
use Rattle.std.specs.Prelude.{◌==◌}
use Rattle.std.specs.Cmp.{booleans_Decides}
use Rattle.std.proofs.lemmas.Bool.{and_from, and_parts}
use Rattle.std.proofs.lemmas.Bool.Decides.{Decides-int_eq, nat_tests}
use Rattle.std.proofs.lemmas.Slice.Eq.{bytes_eq-Decides}
use Rattle.std.specs.Ordering.{int_eq}
use Rattle.sf_dates.specs.declared.day.Day.{Day}
use Rattle.sf_dates.specs.declared.moment.Moment.{Moment}
use Rattle.sf_features.specs.declared.attr_value.AttrValue.{AttrValue}
use Rattle.sf_features.specs.declared.attr_value.AttrValue.TheVariants.{Int, Text, Decimal, Bool as Truth, Date, DateTime}
use Rattle.sf_decimals.specs.declared.number.Number.{Number}
use Rattle.sf_features.specs.Values.{same_date, same_datetime, same_decimal, same_value}

same-number : (m n : ℕ) → (m == n) ≡ true → m ≡ n
same-number m n is = grind (arith, nat_tests)

number-itself : (n : ℕ) → (n == n) ≡ true
number-itself n = grind (arith, nat_tests)

same-decimal : (a b : Number) → same_decimal a b ≡ true → a ≡ b
same-decimal a b is =
    let parts = and_parts (int_eq a.mantissa b.mantissa) (a.places == b.places) is in
    ap (λ (m : ℤ). record { mantissa = m; places = a.places }) ((Decides-int_eq a.mantissa b.mantissa).0 parts.0)
    ∙ ap (λ (n : ℕ). record { mantissa = b.mantissa; places = n }) (same-number a.places b.places parts.1)

same-day : (a b : Day) → same_date a b ≡ true → a ≡ b
same-day a b is =
    let outer = and_parts (a.year == b.year && a.month == b.month) (a.day == b.day) is in
    let inner = and_parts (a.year == b.year) (a.month == b.month) outer.0 in
    ap (λ (n : ℕ). record { year = n; month = a.month; day = a.day }) (same-number a.year b.year inner.0)
    ∙ ap (λ (n : ℕ). record { year = b.year; month = n; day = a.day }) (same-number a.month b.month inner.1)
    ∙ ap (λ (n : ℕ). record { year = b.year; month = b.month; day = n }) (same-number a.day b.day outer.1)

same-moment : (a b : Moment) → same_datetime a b ≡ true → a ≡ b
same-moment a b is =
    let parts = and_parts (same_date a.date b.date) (a.millisecond == b.millisecond) is in
    ap (λ (d : Day). record { date = d; millisecond = a.millisecond }) (same-day a.date b.date parts.0)
    ∙ ap (λ (n : ℕ). record { date = b.date; millisecond = n }) (same-number a.millisecond b.millisecond parts.1)

pub same-value : (a b : AttrValue) → same_value a b ≡ true → a ≡ b
same-value (Int a) (Int b) is = ap Int ((Decides-int_eq a b).0 is)
same-value (Text a) (Text b) is = ap Text ((bytes_eq-Decides a b).0 is)
same-value (Decimal a) (Decimal b) is = ap Decimal (same-decimal a b is)
same-value (Truth a) (Truth b) is = ap Truth ((booleans_Decides a b).0 is)
same-value (Date a) (Date b) is = ap Date (same-day a b is)
same-value (DateTime a) (DateTime b) is = ap DateTime (same-moment a b is)
same-value (Int a) (Text b) is = cc
same-value (Int a) (Decimal b) is = cc
same-value (Int a) (Truth b) is = cc
same-value (Int a) (Date b) is = cc
same-value (Int a) (DateTime b) is = cc
same-value (Text a) (Int b) is = cc
same-value (Text a) (Decimal b) is = cc
same-value (Text a) (Truth b) is = cc
same-value (Text a) (Date b) is = cc
same-value (Text a) (DateTime b) is = cc
same-value (Decimal a) (Int b) is = cc
same-value (Decimal a) (Text b) is = cc
same-value (Decimal a) (Truth b) is = cc
same-value (Decimal a) (Date b) is = cc
same-value (Decimal a) (DateTime b) is = cc
same-value (Truth a) (Int b) is = cc
same-value (Truth a) (Text b) is = cc
same-value (Truth a) (Decimal b) is = cc
same-value (Truth a) (Date b) is = cc
same-value (Truth a) (DateTime b) is = cc
same-value (Date a) (Int b) is = cc
same-value (Date a) (Text b) is = cc
same-value (Date a) (Decimal b) is = cc
same-value (Date a) (Truth b) is = cc
same-value (Date a) (DateTime b) is = cc
same-value (DateTime a) (Int b) is = cc
same-value (DateTime a) (Text b) is = cc
same-value (DateTime a) (Decimal b) is = cc
same-value (DateTime a) (Truth b) is = cc
same-value (DateTime a) (Date b) is = cc

day-itself : (d : Day) → same_date d d ≡ true
day-itself d = and_from _ _ (and_from _ _ (number-itself d.year) (number-itself d.month)) (number-itself d.day)

pub same-itself : (a : AttrValue) → same_value a a ≡ true
same-itself (Int a) = (Decides-int_eq a a).1 refl
same-itself (Text a) = (bytes_eq-Decides a a).1 refl
same-itself (Decimal a) = and_from _ _ ((Decides-int_eq a.mantissa a.mantissa).1 refl) (number-itself a.places)
same-itself (Truth a) = (booleans_Decides a a).1 refl
same-itself (Date a) = day-itself a
same-itself (DateTime a) = and_from _ _ (day-itself a.date) (number-itself a.millisecond)
