-- Days of the Gregorian calendar, also before there was one, and moments of UTC.
use Rattle.std.specs.Prelude.{ℕ, ◌%◌, Bool, not, ◌&&◌, ◌||◌, ◌==◌, nat_lt, nat_le, IsTrue, if◌then◌else◌}
use Rattle.std.specs.Ordering.{nat_cmp, ordering_then}
use Rattle.std.specs.declared.cmp.Ordering.{Ordering}
use Rattle.sf_dates.specs.declared.day.Day.{Day}
use Rattle.sf_dates.specs.declared.moment.Moment.{Moment}

-- each fourth year, but of those that end a century only each fourth
abbrev pub is_leap : ℕ → Bool
is_leap year = year % 4 == 0 && (not (year % 100 == 0) || year % 400 == 0)

-- how many days a month has, from 1 to 12, in a leap year or another
abbrev pub month_days : Bool → ℕ → ℕ
month_days leap month =
    if month == 2 then (if leap then 29 else 28)
    else if month == 4 || month == 6 || month == 9 || month == 11 then 30
    else 31

-- whether there is such a day, from 0001-01-01 to 9999-12-31
abbrev pub is_date : ℕ → ℕ → ℕ → Bool
is_date year month day =
    nat_le 1 year && nat_le year 9999 && nat_le 1 month && nat_le month 12 && nat_le 1 day && nat_le day (month_days (is_leap year) month)

-- how many milliseconds a day has
abbrev pub day_milliseconds : ℕ
day_milliseconds = 86400000

-- whether there is such a moment: a day that there is, and a millisecond of it
abbrev pub is_datetime : ℕ → ℕ → ℕ → ℕ → Bool
is_datetime year month day millisecond = is_date year month day && nat_lt millisecond day_milliseconds

-- the same of a day, and of a moment
abbrev pub is_day : Day → Bool
is_day d = is_date d.year d.month d.day

abbrev pub is_moment : Moment → Bool
is_moment t = is_datetime t.date.year t.date.month t.date.day t.millisecond

abbrev pub IsDate : Day → Type 0
IsDate d = IsTrue (is_day d)

abbrev pub IsDateTime : Moment → Type 0
IsDateTime t = IsTrue (is_moment t)

-- the order of two days as they come, and of two moments
abbrev pub day_cmp : Day → Day → Ordering
day_cmp a b = ordering_then (ordering_then (nat_cmp a.year b.year) (nat_cmp a.month b.month)) (nat_cmp a.day b.day)

abbrev pub moment_cmp : Moment → Moment → Ordering
moment_cmp a b = ordering_then (day_cmp a.date b.date) (nat_cmp a.millisecond b.millisecond)
