-- Internal: who wants to trust the program need not read this file.
-- The matrix of two geometries the other way round.
use Rattle.std.specs.Prelude.{◌≡◌}
use Rattle.sf_geometry.specs.declared.geometry.Geometry.{Geometry}
use Rattle.sf_relate.specs.Matrices.{matrix_of}
use Rattle.sf_known.specs.Transposed.{transposed}

-- the columns of the one are the rows of the other
abbrev pub MatricesAreTransposed : Type 0
MatricesAreTransposed = (a b : Geometry) → matrix_of b a ≡ transposed (matrix_of a b)
