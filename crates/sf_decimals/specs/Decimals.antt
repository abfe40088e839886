-- Exact decimal numbers: which there are, what a text spells, and how a number is written.
use Rattle.std.specs.Prelude.{ℕ, zero, suc, ◌+◌, ◌-◌, ◌*◌, ◌*ℤ◌, ◌/◌, ◌%◌, ◌^◌, ℤ, pos, negsuc, Bool, true, false, not, ◌&&◌, ◌||◌, ◌==◌, nat_lt, nat_le, int_le, IsTrue, List, [], ◌∷◌, ◌++◌, length, take, drop, Option, None, Some, if◌then◌else◌}
use Rattle.std.specs.Char.{is_ascii_digit}
use Rattle.std.specs.List.{prefix_len, list_all}
use Rattle.std.specs.Fmt.{decimal}
use Rattle.sf_decimals.specs.declared.number.Number.{Number}

-- how many places a number has at most behind its point
abbrev pub places_max : ℕ
places_max = 18

-- how far a number is from 0
abbrev pub magnitude : ℤ → ℕ
magnitude (pos n) = n
magnitude (negsuc n) = suc n

-- a whole number under a sign
abbrev pub signed : Bool → ℕ → ℤ
signed false n = pos n
signed true zero = pos 0
signed true (suc n) = negsuc n

-- whether a number has 64 bits with its sign
abbrev pub fits_int : ℤ → Bool
fits_int n = int_le (negsuc 9223372036854775807) n && int_le n (pos 9223372036854775807)

-- whether no zero stands at the end of a fraction
abbrev pub is_reduced : ℕ → ℕ → Bool
is_reduced places n = places == 0 || not (n % 10 == 0)

-- a number is given in one way only: a mantissa of 64 bits, at most 18 places, and no zero at the end of its fraction
abbrev pub is_decimal : Number → Bool
is_decimal d = fits_int d.mantissa && nat_le d.places places_max && is_reduced d.places (magnitude d.mantissa)

-- a number that is no whole one, in its one form
abbrev pub is_fraction : Number → Bool
is_fraction d = is_decimal d && nat_lt 0 d.places

abbrev pub IsDecimal : Number → Type 0
IsDecimal d = IsTrue (is_decimal d)

-- the number that decimal digits spell behind a number
abbrev pub read_on : ℕ → List ℕ → ℕ
read_on n [] = n
read_on n (digit ∷ digits) = read_on (10 * n + (digit - 48)) digits

-- how many bytes a sign at the front takes
abbrev pub sign_len : List ℕ → ℕ
sign_len [] = 0
sign_len (b ∷ bytes) = if b == 43 || b == 45 then 1 else 0

-- whether a minus stands at the front
abbrev pub is_negative : List ℕ → Bool
is_negative [] = false
is_negative (b ∷ bytes) = b == 45

-- the digits behind a point, where that is all: nothing, or a point and at least one digit
abbrev pub fraction_of : List ℕ → Option (List ℕ)
fraction_of [] = Some []
fraction_of (b ∷ digits) = if b == 46 && nat_lt 0 (length digits) && list_all is_ascii_digit digits then Some digits else None

-- a digit before others of which the zeros at the end are gone
abbrev pub kept_before : ℕ → List ℕ → List ℕ
kept_before digit [] = if digit == 48 then [] else digit ∷ []
kept_before digit (next ∷ digits) = digit ∷ next ∷ digits

-- digits without the zeros at their end
abbrev pub kept : List ℕ → List ℕ
kept [] = []
kept (digit ∷ digits) = kept_before digit (kept digits)

-- the number of these digits before and behind the point
abbrev pub number_of : Bool → List ℕ → List ℕ → Option Number
number_of negative whole fraction =
    let n = signed negative (read_on (read_on 0 whole) fraction) in
    if nat_lt 0 (length whole) && nat_le (length fraction) places_max && fits_int n then Some (record { mantissa = n; places = length fraction }) else None

abbrev pub number_with : Bool → List ℕ → Option (List ℕ) → Option Number
number_with negative whole None = None
number_with negative whole (Some fraction) = number_of negative whole (kept fraction)

-- the number of a text behind its sign
abbrev pub unsigned_spelled : Bool → List ℕ → Option Number
unsigned_spelled negative unsigned =
    let len = prefix_len is_ascii_digit unsigned in
    number_with negative (take len unsigned) (fraction_of (drop len unsigned))

-- the number that a text spells: digits behind an optional sign, and behind them an optional point and digits
abbrev pub decimal_spelled : List ℕ → Option Number
decimal_spelled text = unsigned_spelled (is_negative text) (drop (sign_len text) text)

-- the last digits of a number, with zeros before them
abbrev pub padded : ℕ → ℕ → List ℕ
padded zero n = []
padded (suc places) n = (48 + n / 10 ^ places) ∷ padded places (n % 10 ^ places)

-- a point, and so many digits
abbrev pub fraction_text : ℕ → ℕ → List ℕ
fraction_text zero n = []
fraction_text (suc places) n = 46 ∷ padded (suc places) n

-- a number without a sign
abbrev pub unsigned_text : ℕ → ℕ → List ℕ
unsigned_text places n = decimal (n / 10 ^ places) ++ fraction_text places (n % 10 ^ places)

-- the text of a number
abbrev pub decimal_text : Number → List ℕ
decimal_text d = text_by d.mantissa
  where
    text_by : ℤ → List ℕ
    text_by (pos n) = unsigned_text d.places n
    text_by (negsuc n) = 45 ∷ unsigned_text d.places (suc n)

-- a number as whole 10 ^ 18ths of one
abbrev pub scaled : Number → ℤ
scaled d = d.mantissa *ℤ pos (10 ^ (places_max - d.places))
