-- Internal: who wants to trust the program need not read this file.
-- Columns and slabs.
use Rattle.std.specs.Prelude.{Bool, true, false, Option, Some, None}
use Rattle.sf_grid.specs.Fraction.{Fraction}
use Rattle.sf_strips.specs.declared.strip.Strip.{Strip}
use Rattle.sf_strips.specs.declared.strip.Strip.TheVariants.{Column, Slab}

-- where the column is
abbrev pub column_of : Strip → Option Fraction
column_of (Column x) = Some x
column_of Slab = None

abbrev pub is_column : Strip → Bool
is_column (Column x) = true
is_column Slab = false
