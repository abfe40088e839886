-- Internal: who wants to trust the program need not read this file.
-- How far apart two points of two boxes are at most: as far as two corners.
use Rattle.std.specs.Prelude.{ℕ, ◌+◌, ◌*◌, ℤ, ◌-ℤ◌, unsigned_abs}
use Rattle.std.specs.Int.{int_max}
use Rattle.sf_geometry.specs.declared.extent.Extent.{Extent}

-- the greatest difference of a number from a to b and one from c to d
abbrev pub span_of : ℤ → ℤ → ℤ → ℤ → ℤ
span_of a b c d = int_max (b -ℤ c) (d -ℤ a)

-- the square of a number
abbrev pub square_of_number : ℤ → ℕ
square_of_number n = unsigned_abs n * unsigned_abs n

-- the square of the distance of the corners that are farthest apart
abbrev pub square_of_span : Extent → Extent → ℕ
square_of_span e f = square_of_number (span_of e.min_x e.max_x f.min_x f.max_x) + square_of_number (span_of e.min_y e.max_y f.min_y f.max_y)
