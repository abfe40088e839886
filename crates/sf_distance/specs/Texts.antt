-- Distances and their squares as texts: of fractions that are one number the texts are the same.
use Rattle.std.specs.Prelude.{ℕ, zero, suc, ◌+◌, ◌*◌, ◌^◌, ◌/◌, ◌%◌, ◌==◌, List, [], ◌++◌, unsigned_abs, codes, decimal, nat_le, if◌then◌else◌}
use Rattle.sf_grid.specs.Fraction.{Fraction}

-- the square root of a number, rounded down, bit by bit from above: r is what is known of it, and so many bits are left. That r is taken
-- by cases has it computed at each bit.
unfoldable pub root_from : ℕ → ℕ → ℕ → ℕ
root_from zero r n = r
root_from (suc bits) zero n = if nat_le (2 ^ bits * 2 ^ bits) n then root_from bits (2 ^ bits) n else root_from bits zero n
root_from (suc bits) (suc r) n =
    if nat_le ((suc r + 2 ^ bits) * (suc r + 2 ^ bits)) n then root_from bits (suc r + 2 ^ bits) n else root_from bits (suc r) n

-- of a number below 2^128
abbrev pub root_of : ℕ → ℕ
root_of n = root_from 64 0 n

-- the root of a fraction that is not negative, in thousandths, rounded down
abbrev pub thousandths_of_root : Fraction → ℕ
thousandths_of_root s = root_of ((unsigned_abs s.num * 1000000) / s.den)

-- so many thousandths: the whole number, a point, and three digits
abbrev pub thousandths_text : ℕ → List ℕ
thousandths_text n = decimal (n / 1000) ++ (codes "." ++ (decimal (n / 100 % 10) ++ (decimal (n / 10 % 10) ++ decimal (n % 10))))

-- a distance that is asked about: whole grid steps as a whole number
abbrev pub reach_text : ℕ → List ℕ
reach_text thousandths = if thousandths % 1000 == 0 then decimal (thousandths / 1000) else thousandths_text thousandths

-- the distance whose square is given
abbrev pub distance_text : Fraction → List ℕ
distance_text s = thousandths_text (thousandths_of_root s)

-- the greatest common divisor of a and b, in so many remainders at most
unfoldable pub gcd_within : ℕ → ℕ → ℕ → ℕ
gcd_within zero a b = a
gcd_within (suc steps) a zero = a
gcd_within (suc steps) a (suc b) = gcd_within steps (suc b) (a % suc b)

abbrev pub gcd : ℕ → ℕ → ℕ
gcd a b = gcd_within b a b

-- the numerator, and behind a stroke the denominator, unless it is 1
abbrev pub terms_text : ℕ → ℕ → List ℕ
terms_text num den = decimal num ++ (if den == 1 then [] else codes "/" ++ decimal den)

-- a fraction that is not negative, in lowest terms
abbrev pub square_text : Fraction → List ℕ
square_text s = terms_text (unsigned_abs s.num / gcd (unsigned_abs s.num) s.den) (s.den / gcd (unsigned_abs s.num) s.den)
