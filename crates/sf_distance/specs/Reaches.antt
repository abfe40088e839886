-- Distances that are asked about, in thousandths of a grid step.
use Rattle.std.specs.Prelude.{ℕ, ◌+◌, ◌*◌, ◌/◌, pos}
use Rattle.sf_grid.specs.Fraction.{Fraction}

-- what a distance that is asked about is below: 2^32 grid steps, more than the grid is wide
abbrev pub reach_limit : ℕ
reach_limit = 4294967296000

-- the square of so many thousandths, in squared grid steps
abbrev pub square_of_reach : ℕ → Fraction
square_of_reach thousandths = record { num = pos (thousandths * thousandths); den = 1000000 }

-- so many thousandths as whole grid steps, rounded up
abbrev pub steps_of_reach : ℕ → ℕ
steps_of_reach thousandths = (thousandths + 999) / 1000
