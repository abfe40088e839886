-- Worked texts, by computing.
use Rattle.std.proofs.Common.{◌≡◌, ℕ, true, false, codes, None, Some, refl}
use Rattle.sf_dates.specs.declared.day.Day.{Day}
use Rattle.sf_dates.specs.declared.moment.Moment.{Moment}
use Rattle.sf_dates.specs.Calendar.{is_date, is_datetime}
use Rattle.sf_dates.specs.Texts.{date_spelled, date_text, datetime_spelled, datetime_text}

abbrev day : ℕ → ℕ → ℕ → Day
day y m d = record { year = y; month = m; day = d }

-- ---- days that there are

leap_year : is_date 2024 2 29 ≡ true
leap_year = refl

no_leap_year : is_date 2025 2 29 ≡ false
no_leap_year = refl

century : is_date 2100 2 29 ≡ false
century = refl

fourth_century : is_date 2000 2 29 ≡ true
fourth_century = refl

day_31_of_november : is_date 2024 11 31 ≡ false
day_31_of_november = refl

day_31_of_december : is_date 9999 12 31 ≡ true
day_31_of_december = refl

day_0 : is_date 2024 1 0 ≡ false
day_0 = refl

month_13 : is_date 2024 13 1 ≡ false
month_13 = refl

year_0 : is_date 0 1 1 ≡ false
year_0 = refl

year_10000 : is_date 10000 1 1 ≡ false
year_10000 = refl

last_millisecond : is_datetime 2024 1 1 86399999 ≡ true
last_millisecond = refl

no_millisecond : is_datetime 2024 1 1 86400000 ≡ false
no_millisecond = refl

-- ---- texts of days

read_leap_day : date_spelled (codes "2024-02-29") ≡ Some (day 2024 2 29)
read_leap_day = refl

read_first_day : date_spelled (codes "0001-01-01") ≡ Some (day 1 1 1)
read_first_day = refl

read_last_day : date_spelled (codes "9999-12-31") ≡ Some (day 9999 12 31)
read_last_day = refl

no_such_day : date_spelled (codes "2025-02-29") ≡ None
no_such_day = refl

no_such_year : date_spelled (codes "0000-12-31") ≡ None
no_such_year = refl

short_month : date_spelled (codes "2024-2-29") ≡ None
short_month = refl

longer_than_a_day : date_spelled (codes "2024-02-290") ≡ None
longer_than_a_day = refl

slashes : date_spelled (codes "2024/02/29") ≡ None
slashes = refl

signed_year : date_spelled (codes "+024-02-29") ≡ None
signed_year = refl

no_text : date_spelled (codes "") ≡ None
no_text = refl

written_day : date_text (day 2024 2 29) ≡ codes "2024-02-29"
written_day = refl

written_early_day : date_text (day 33 4 3) ≡ codes "0033-04-03"
written_early_day = refl

-- ---- texts of moments

abbrev moment : ℕ → Moment
moment n = record { date = day 2026 11 29; millisecond = n }

read_seconds : datetime_spelled (codes "2026-11-29T19:28:11Z") ≡ Some (moment 70091000)
read_seconds = refl

read_no_milliseconds : datetime_spelled (codes "2026-11-29T19:28:11.000Z") ≡ Some (moment 70091000)
read_no_milliseconds = refl

read_milliseconds : datetime_spelled (codes "2026-11-29T19:28:11.042Z") ≡ Some (moment 70091042)
read_milliseconds = refl

read_last_millisecond : datetime_spelled (codes "2026-11-29T23:59:59.999Z") ≡ Some (moment 86399999)
read_last_millisecond = refl

hour_24 : datetime_spelled (codes "2026-11-29T24:00:00Z") ≡ None
hour_24 = refl

minute_60 : datetime_spelled (codes "2026-11-29T23:60:00Z") ≡ None
minute_60 = refl

second_60 : datetime_spelled (codes "2026-11-29T23:59:60Z") ≡ None
second_60 = refl

moment_of_no_such_day : datetime_spelled (codes "2025-02-29T19:28:11Z") ≡ None
moment_of_no_such_day = refl

other_zone : datetime_spelled (codes "2026-11-29T19:28:11+02:00") ≡ None
other_zone = refl

no_zone : datetime_spelled (codes "2026-11-29T19:28:11.000") ≡ None
no_zone = refl

small_letters : datetime_spelled (codes "2026-11-29t19:28:11z") ≡ None
small_letters = refl

blank_before_the_time : datetime_spelled (codes "2026-11-29 19:28:11Z") ≡ None
blank_before_the_time = refl

two_digits_of_a_second : datetime_spelled (codes "2026-11-29T19:28:11.04Z") ≡ None
two_digits_of_a_second = refl

six_digits_of_a_second : datetime_spelled (codes "2026-11-29T19:28:11.042000Z") ≡ None
six_digits_of_a_second = refl

no_seconds : datetime_spelled (codes "2026-11-29T19:28Z") ≡ None
no_seconds = refl

day_alone : datetime_spelled (codes "2026-11-29") ≡ None
day_alone = refl

written_moment : datetime_text (moment 70091042) ≡ codes "2026-11-29T19:28:11.042Z"
written_moment = refl

written_midnight : datetime_text (moment 0) ≡ codes "2026-11-29T00:00:00.000Z"
written_midnight = refl
