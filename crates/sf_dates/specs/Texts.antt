-- Texts of days and moments: YYYY-MM-DD, and YYYY-MM-DDThh:mm:ss.mmmZ.
use Rattle.std.specs.Prelude.{ℕ, ◌+◌, ◌-◌, ◌*◌, ◌/◌, ◌%◌, ◌&&◌, ◌==◌, nat_lt, List, [], ◌∷◌, ◌++◌, take, drop, codes, Option, None, Some, option_map, if◌then◌else◌}
use Rattle.std.specs.Char.{is_ascii_digit}
use Rattle.sf_dates.specs.declared.day.Day.{Day}
use Rattle.sf_dates.specs.declared.moment.Moment.{Moment}
use Rattle.sf_dates.specs.Calendar.{is_date}

-- ---- written

-- a number in two, three and four digits
abbrev pub two_digits : ℕ → List ℕ
two_digits n = (48 + n / 10) ∷ (48 + n % 10) ∷ []

abbrev pub three_digits : ℕ → List ℕ
three_digits n = (48 + n / 100) ∷ two_digits (n % 100)

abbrev pub four_digits : ℕ → List ℕ
four_digits n = two_digits (n / 100) ++ two_digits (n % 100)

-- the text of a day: YYYY-MM-DD
abbrev pub date_text : Day → List ℕ
date_text d = four_digits d.year ++ (codes "-" ++ (two_digits d.month ++ (codes "-" ++ two_digits d.day)))

-- the text of a second of a day: Thh:mm:ss
abbrev pub second_text : ℕ → List ℕ
second_text second =
    codes "T" ++ (two_digits (second / 3600) ++ (codes ":" ++ (two_digits (second / 60 % 60) ++ (codes ":" ++ two_digits (second % 60)))))

-- the text of a millisecond of a second, and of the zone: .mmmZ
abbrev pub millisecond_text : ℕ → List ℕ
millisecond_text millisecond = codes "." ++ (three_digits millisecond ++ codes "Z")

-- the text of a moment: YYYY-MM-DDThh:mm:ss.mmmZ
abbrev pub datetime_text : Moment → List ℕ
datetime_text t = date_text t.date ++ (second_text (t.millisecond / 1000) ++ millisecond_text (t.millisecond % 1000))

-- ---- read

-- the number of two digits, of three, and of four
abbrev pub two : ℕ → ℕ → Option ℕ
two a b = if is_ascii_digit a && is_ascii_digit b then Some (10 * (a - 48) + (b - 48)) else None

abbrev pub three : ℕ → ℕ → ℕ → Option ℕ
three a b c = if is_ascii_digit a then option_map (λ n. 100 * (a - 48) + n) (two b c) else None

abbrev pub hundreds : Option ℕ → Option ℕ → Option ℕ
hundreds (Some m) (Some n) = Some (100 * m + n)
hundreds m n = None

abbrev pub four : ℕ → ℕ → ℕ → ℕ → Option ℕ
four a b c d = hundreds (two a b) (two c d)

-- the day of a year, a month and a day, if there is one
abbrev pub date_by : Option ℕ → Option ℕ → Option ℕ → Option Day
date_by (Some year) (Some month) (Some day) = if is_date year month day then Some (record { year = year; month = month; day = day }) else None
date_by year month day = None

-- the day that a text spells: YYYY-MM-DD
abbrev pub date_spelled : List ℕ → Option Day
date_spelled (a ∷ b ∷ c ∷ d ∷ m ∷ e ∷ f ∷ n ∷ g ∷ h ∷ []) = if m == 45 && n == 45 then date_by (four a b c d) (two e f) (two g h) else None
date_spelled text = None

-- the second of a day, by an hour, a minute and a second
abbrev pub second_by : Option ℕ → Option ℕ → Option ℕ → Option ℕ
second_by (Some hour) (Some minute) (Some second) = if nat_lt hour 24 && nat_lt minute 60 && nat_lt second 60 then Some (3600 * hour + 60 * minute + second) else None
second_by hour minute second = None

-- the second of a day that a text spells: Thh:mm:ss
abbrev pub second_spelled : List ℕ → Option ℕ
second_spelled (l ∷ a ∷ b ∷ m ∷ c ∷ d ∷ n ∷ e ∷ f ∷ []) = if l == 84 && m == 58 && n == 58 then second_by (two a b) (two c d) (two e f) else None
second_spelled text = None

-- the millisecond of a second that the end of a text spells: .mmmZ, or Z alone for the first one
abbrev pub millisecond_spelled : List ℕ → Option ℕ
millisecond_spelled (l ∷ []) = if l == 90 then Some 0 else None
millisecond_spelled (l ∷ a ∷ b ∷ c ∷ m ∷ []) = if l == 46 && m == 90 then three a b c else None
millisecond_spelled text = None

-- the moment of a day, a second of it and a millisecond of that
abbrev pub datetime_by : Option Day → Option ℕ → Option ℕ → Option Moment
datetime_by (Some date) (Some second) (Some millisecond) = Some (record { date = date; millisecond = 1000 * second + millisecond })
datetime_by date second millisecond = None

-- the moment that a text spells: YYYY-MM-DDThh:mm:ss.mmmZ, or without .mmm
abbrev pub datetime_spelled : List ℕ → Option Moment
datetime_spelled text = datetime_by (date_spelled (take 10 text)) (second_spelled (take 9 (drop 10 text))) (millisecond_spelled (drop 19 text))
