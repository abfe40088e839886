-- Worked numbers, by computing.
use Rattle.std.proofs.Common.{◌≡◌, ℕ, ℤ, pos, negsuc, true, false, codes, None, Some, refl}
use Rattle.std.specs.Fmt.{digits}
use Rattle.sf_decimals.specs.declared.number.Number.{Number}
use Rattle.sf_decimals.specs.Decimals.{is_decimal, decimal_spelled, decimal_text}

abbrev d : ℤ → ℕ → Number
d n k = record { mantissa = n; places = k }

-- ---- numbers that there are

one_place : is_decimal (d (pos 125) 1) ≡ true
one_place = refl

zero_at_the_end : is_decimal (d (pos 1250) 2) ≡ false
zero_at_the_end = refl

whole_with_a_zero : is_decimal (d (negsuc 9) 0) ≡ true
whole_with_a_zero = refl

zero_with_places : is_decimal (d (pos 0) 1) ≡ false
zero_with_places = refl

places_18 : is_decimal (d (pos 1) 18) ≡ true
places_18 = refl

places_19 : is_decimal (d (pos 1) 19) ≡ false
places_19 = refl

-- ---- read

read_fraction : decimal_spelled (codes "812.5") ≡ Some (d (pos 8125) 1)
read_fraction = refl

read_spelled_freely : decimal_spelled (codes "+0812.50") ≡ Some (d (pos 8125) 1)
read_spelled_freely = refl

read_whole : decimal_spelled (codes "12") ≡ Some (d (pos 12) 0)
read_whole = refl

read_whole_with_zeros : decimal_spelled (codes "-012.00") ≡ Some (d (negsuc 11) 0)
read_whole_with_zeros = refl

read_zeros_before_the_end : decimal_spelled (codes "100.00100") ≡ Some (d (pos 100001) 3)
read_zeros_before_the_end = refl

read_minus_zero : decimal_spelled (codes "-0.0") ≡ Some (d (pos 0) 0)
read_minus_zero = refl

read_18_places : decimal_spelled (codes "0.000000000000000001") ≡ Some (d (pos 1) 18)
read_18_places = refl

read_19_digits_and_a_zero : decimal_spelled (codes "0.1000000000000000000") ≡ Some (d (pos 1) 1)
read_19_digits_and_a_zero = refl

read_greatest : decimal_spelled (codes "9223372036854775807") ≡ Some (d (pos 9223372036854775807) 0)
read_greatest = refl

read_least : decimal_spelled (codes "-922337203685477580.8") ≡ Some (d (negsuc 9223372036854775807) 1)
read_least = refl

too_great : decimal_spelled (codes "9223372036854775808") ≡ None
too_great = refl

too_small : decimal_spelled (codes "-922337203685477580.9") ≡ None
too_small = refl

too_many_places : decimal_spelled (codes "0.0000000000000000001") ≡ None
too_many_places = refl

no_digit_before_the_point : decimal_spelled (codes ".5") ≡ None
no_digit_before_the_point = refl

no_digit_behind_the_point : decimal_spelled (codes "1.") ≡ None
no_digit_behind_the_point = refl

two_points : decimal_spelled (codes "1.5.2") ≡ None
two_points = refl

comma : decimal_spelled (codes "1,5") ≡ None
comma = refl

exponent : decimal_spelled (codes "1e3") ≡ None
exponent = refl

two_signs : decimal_spelled (codes "+-1") ≡ None
two_signs = refl

sign_alone : decimal_spelled (codes "-") ≡ None
sign_alone = refl

no_text : decimal_spelled (codes "") ≡ None
no_text = refl

blank_behind : decimal_spelled (codes "1 ") ≡ None
blank_behind = refl

-- ---- written

written_fraction : decimal_text (d (pos 8125) 1) ≡ codes "812.5"
unfolding digits
written_fraction = refl

written_whole : decimal_text (d (negsuc 11) 0) ≡ codes "-12"
unfolding digits
written_whole = refl

written_zeros_behind_the_point : decimal_text (d (negsuc 4) 3) ≡ codes "-0.005"
unfolding digits
written_zeros_behind_the_point = refl

written_least : decimal_text (d (negsuc 9223372036854775807) 18) ≡ codes "-9.223372036854775808"
unfolding digits
written_least = refl
