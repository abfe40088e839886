-- Which values may stand in a column of a type, and which two are one.
use Rattle.std.specs.Prelude.{ℕ, Bool, true, false, ◌&&◌, ◌==◌, nat_le, nat_lt, List, length, bytes_eq, if◌then◌else◌}
use Rattle.std.specs.Bool.{beq}
use Rattle.std.specs.List.{list_all}
use Rattle.std.specs.Ordering.{int_eq}
use Rattle.std.specs.Str.{is_utf8}
use Rattle.sf_dates.specs.declared.day.Day.{Day}
use Rattle.sf_dates.specs.declared.moment.Moment.{Moment}
use Rattle.sf_dates.specs.Calendar.{is_day, is_moment}
use Rattle.sf_decimals.specs.declared.number.Number.{Number}
pub use Rattle.sf_decimals.specs.Decimals.{fits_int, is_fraction}
use Rattle.sf_features.specs.declared.column_type.ColumnType.{ColumnType}
use Rattle.sf_features.specs.declared.column_type.ColumnType.TheVariants as types
use Rattle.sf_features.specs.declared.attr_value.AttrValue.{AttrValue}
use Rattle.sf_features.specs.declared.attr_value.AttrValue.TheVariants as values

-- how many bytes an attribute text has at most
abbrev pub text_max : ℕ
text_max = 65535

-- any byte but 0, at which other programs end a text
abbrev pub is_text_byte : ℕ → Bool
is_text_byte b = nat_lt 0 b

-- at most 65,535 bytes of UTF-8, none of them 0
abbrev pub is_attr_text : List ℕ → Bool
is_attr_text bytes = nat_le (length bytes) text_max && is_utf8 bytes && list_all is_text_byte bytes

-- a number as a value: a whole one is an Int, so each number has one form
abbrev pub number_value : Number → AttrValue
number_value number = if number.places == 0 then values.Int number.mantissa else values.Decimal number

-- whether a value is of the type; a column of decimals takes whole numbers too
abbrev pub is_of_type : ColumnType → AttrValue → Bool
is_of_type types.Int (values.Int n) = fits_int n
is_of_type types.Text (values.Text bytes) = is_attr_text bytes
is_of_type types.Decimal (values.Int n) = fits_int n
is_of_type types.Decimal (values.Decimal number) = is_fraction number
is_of_type types.Bool (values.Bool b) = true
is_of_type types.Date (values.Date day) = is_day day
is_of_type types.DateTime (values.DateTime moment) = is_moment moment
is_of_type column_type value = false

abbrev pub same_decimal : Number → Number → Bool
same_decimal a b = int_eq a.mantissa b.mantissa && a.places == b.places

abbrev pub same_date : Day → Day → Bool
same_date a b = a.year == b.year && a.month == b.month && a.day == b.day

abbrev pub same_datetime : Moment → Moment → Bool
same_datetime a b = same_date a.date b.date && a.millisecond == b.millisecond

-- whether two values are one
abbrev pub same_value : AttrValue → AttrValue → Bool
same_value (values.Int a) (values.Int b) = int_eq a b
same_value (values.Text a) (values.Text b) = bytes_eq a b
same_value (values.Decimal a) (values.Decimal b) = same_decimal a b
same_value (values.Bool a) (values.Bool b) = beq a b
same_value (values.Date a) (values.Date b) = same_date a b
same_value (values.DateTime a) (values.DateTime b) = same_datetime a b
same_value value other = false
