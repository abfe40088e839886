-- The order of values: numbers by what they count, false before true, days and moments as they come, texts by their bytes.
use Rattle.std.specs.Prelude.{ℕ}
use Rattle.std.specs.Cmp.Lexicographic.{slice_cmp}
use Rattle.std.specs.Ordering.{bool_cmp, int_cmp, nat_cmp}
use Rattle.std.specs.declared.cmp.Ordering.{Ordering}
use Rattle.sf_dates.specs.Calendar.{day_cmp, moment_cmp}
use Rattle.sf_decimals.specs.declared.number.Number.{Number}
use Rattle.sf_decimals.specs.Decimals.{scaled}
use Rattle.sf_features.specs.declared.attr_value.AttrValue.{AttrValue}
use Rattle.sf_features.specs.declared.attr_value.AttrValue.TheVariants as values

-- the order of two numbers
abbrev pub number_cmp : Number → Number → Ordering
number_cmp a b = int_cmp (scaled a) (scaled b)

-- which of two values comes first that can't stand in one column: numbers, texts, truth values, days, moments
abbrev pub rank_of : AttrValue → ℕ
rank_of (values.Int n) = 0
rank_of (values.Decimal number) = 0
rank_of (values.Text bytes) = 1
rank_of (values.Bool b) = 2
rank_of (values.Date day) = 3
rank_of (values.DateTime moment) = 4

abbrev pub value_cmp : AttrValue → AttrValue → Ordering
value_cmp (values.Int a) (values.Int b) = int_cmp a b
value_cmp (values.Int a) (values.Decimal b) = number_cmp (record { mantissa = a; places = 0 }) b
value_cmp (values.Decimal a) (values.Int b) = number_cmp a (record { mantissa = b; places = 0 })
value_cmp (values.Decimal a) (values.Decimal b) = number_cmp a b
value_cmp (values.Text a) (values.Text b) = slice_cmp nat_cmp a b
value_cmp (values.Bool a) (values.Bool b) = bool_cmp a b
value_cmp (values.Date a) (values.Date b) = day_cmp a b
value_cmp (values.DateTime a) (values.DateTime b) = moment_cmp a b
value_cmp a b = nat_cmp (rank_of a) (rank_of b)
