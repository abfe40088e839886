-- Internal: who wants to trust the program need not read this file.
-- A box with so many grid steps more on each side. Numbers of 32 bits are as far as it grows.
use Rattle.std.specs.Prelude.{ℕ, ℤ, pos, negsuc, ◌+ℤ◌, ◌-ℤ◌}
use Rattle.std.specs.Int.{int_max, int_min}
use Rattle.sf_geometry.specs.declared.extent.Extent.{Extent}

-- the least and the greatest number of 32 bits
abbrev pub least_number : ℤ
least_number = negsuc 2147483647

abbrev pub greatest_number : ℤ
greatest_number = pos 2147483647

-- so many steps less, and so many more
abbrev pub lowered : ℕ → ℤ → ℤ
lowered steps n = int_max least_number (n -ℤ pos steps)

abbrev pub raised : ℕ → ℤ → ℤ
raised steps n = int_min greatest_number (n +ℤ pos steps)

-- the box with so many steps more on each side
abbrev pub grown : ℕ → Extent → Extent
grown steps e =
    record { min_x = lowered steps e.min_x; min_y = lowered steps e.min_y; max_x = raised steps e.max_x; max_y = raised steps e.max_y }
