-- The text of a day is read as that day, and is the only one.
use Rattle.std.proofs.Common.{◌≡◌, ℕ, ◌+◌, ◌/◌, ◌%◌, ◌<◌, ◌≤◌, Bool, true, false, ◌&&◌, ◌||◌, List, [], ◌∷◌, ◌++◌, Option, None, Some, ap, subst, ◌∙◌, arith}
use Rattle.std.specs.Prelude.{◌==◌, nat_le, if◌then◌else◌}
use Rattle.std.proofs.lemmas.Bool.{and_parts}
use Rattle.std.proofs.lemmas.Bool.Decides.{nat_tests}
use Rattle.sf_dates.specs.declared.day.Day.{Day}
use Rattle.sf_dates.specs.Calendar.{IsDate, is_date, is_leap, month_days}
use Rattle.sf_dates.specs.Texts.{two, four, date_by, date_spelled, date_text}
use Rattle.sf_dates.proofs.Numbers.{le_from, chosen, some_is, two_read, four_read, two_back, four_back}

few_days : (leap : Bool) (m : ℕ) → month_days leap m ≤ 31
few_days leap m = by leap (m == 2) (m == 4 || m == 6 || m == 9 || m == 11)
  where
    by : (leap second thirty : Bool) → (if second then (if leap then 29 else 28) else if thirty then 30 else 31) ≤ 31
    by true true thirty = omega arith
    by false true thirty = omega arith
    by leap false true = omega arith
    by leap false false = omega arith

-- the bounds of a day
pub record Small (y m d : ℕ) : Type 0 where
  pub year : y < 10000
  pub month : m < 100
  pub day : d < 100

pub small_from : (y m d : ℕ) → is_date y m d ≡ true → Small y m d
small_from y m d h =
    let e = and_parts (nat_le 1 y && nat_le y 9999 && nat_le 1 m && nat_le m 12 && nat_le 1 d) (nat_le d (month_days (is_leap y) m)) h in
    let f = and_parts (nat_le 1 y && nat_le y 9999 && nat_le 1 m && nat_le m 12) (nat_le 1 d) e.0 in
    let g = and_parts (nat_le 1 y && nat_le y 9999 && nat_le 1 m) (nat_le m 12) f.0 in
    let i = and_parts (nat_le 1 y && nat_le y 9999) (nat_le 1 m) g.0 in
    let j = and_parts (nat_le 1 y) (nat_le y 9999) i.0 in
    let a = le_from y 9999 j.1 in
    let b = le_from m 12 g.1 in
    let c = le_from d (month_days (is_leap y) m) e.1 in
    let few = few_days (is_leap y) m in
    record { year = omega (arith, a); month = omega (arith, b); day = omega (arith, c, few) }

read_by : (p q r : Option ℕ) (y m d : ℕ) → p ≡ Some y → q ≡ Some m → r ≡ Some d → is_date y m d ≡ true → date_by p q r ≡ Some (record { year = y; month = m; day = d })
read_by p q r y m d hp hq hr is =
    (λ i. date_by (hp i) (hq i) (hr i)) ∙ ap (λ b. if b then Some (record { year = y; month = m; day = d }) else None) is

-- a day that is written is read as that day
pub date_read : (y m d : ℕ) → is_date y m d ≡ true → date_spelled (date_text (record { year = y; month = m; day = d })) ≡ Some (record { year = y; month = m; day = d })
date_read y m d is =
    let small = small_from y m d is in
    read_by
    (four (48 + y / 100 / 10) (48 + y / 100 % 10) (48 + y % 100 / 10) (48 + y % 100 % 10)) (two (48 + m / 10) (48 + m % 10)) (two (48 + d / 10) (48 + d % 10))
    y m d (four_read y small.year) (two_read m small.month) (two_read d small.day) is

-- ---- and back

record Parts (date : Day) (p q r : Option ℕ) : Type 0 where
  year : p ≡ Some date.year
  month : q ≡ Some date.month
  day : r ≡ Some date.day
  real : is_date date.year date.month date.day ≡ true

parts_back : (date : Day) (p q r : Option ℕ) → date_by p q r ≡ Some date → Parts date p q r
parts_back date None q r h = absurd cc
parts_back date (Some y) None r h = absurd cc
parts_back date (Some y) (Some m) None h = absurd cc
parts_back date (Some y) (Some m) (Some d) h =
    let found = chosen (is_date y m d) (Some (record { year = y; month = m; day = d })) date h in
    let same = some_is (record { year = y; month = m; day = d }) date found.1 in
    record {
      year = ap (λ (t : Day). Some t.year) same;
      month = ap (λ (t : Day). Some t.month) same;
      day = ap (λ (t : Day). Some t.day) same;
      real = subst (λ (t : Day). is_date t.year t.month t.day ≡ true) same found.0;
    }

dash_from : (b : ℕ) → (b == 45) ≡ true → 45 ≡ b
dash_from b h = grind (arith, nat_tests)

-- a text that spells a day is the text of a day that there is
pub date_back : (text : List ℕ) (date : Day) → date_spelled text ≡ Some date → IsDate date × (date_text date ≡ text)
date_back [] date is = absurd cc
date_back (a ∷ []) date is = absurd cc
date_back (a ∷ b ∷ []) date is = absurd cc
date_back (a ∷ b ∷ c ∷ []) date is = absurd cc
date_back (a ∷ b ∷ c ∷ d ∷ []) date is = absurd cc
date_back (a ∷ b ∷ c ∷ d ∷ m ∷ []) date is = absurd cc
date_back (a ∷ b ∷ c ∷ d ∷ m ∷ e ∷ []) date is = absurd cc
date_back (a ∷ b ∷ c ∷ d ∷ m ∷ e ∷ f ∷ []) date is = absurd cc
date_back (a ∷ b ∷ c ∷ d ∷ m ∷ e ∷ f ∷ n ∷ []) date is = absurd cc
date_back (a ∷ b ∷ c ∷ d ∷ m ∷ e ∷ f ∷ n ∷ g ∷ []) date is = absurd cc
date_back (a ∷ b ∷ c ∷ d ∷ m ∷ e ∷ f ∷ n ∷ g ∷ h ∷ k ∷ rest) date is = absurd cc
date_back (a ∷ b ∷ c ∷ d ∷ m ∷ e ∷ f ∷ n ∷ g ∷ h ∷ []) date is =
    let found = chosen (m == 45 && n == 45) (date_by (four a b c d) (two e f) (two g h)) date is in
    let dashes = and_parts (m == 45) (n == 45) found.0 in
    let parts = parts_back date (four a b c d) (two e f) (two g h) found.1 in
    let first = dash_from m dashes.0 in
    let second = dash_from n dashes.1 in
    let year = four_back a b c d date.year parts.year in
    let month = two_back e f date.month parts.month in
    let day = two_back g h date.day parts.day in
    (parts.real, λ i. year.1 i ++ (first i ∷ (month.1 i ++ (second i ∷ day.1 i))))
