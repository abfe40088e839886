-- Internal: who wants to trust the program need not read this file.
-- Tight lists of points.
use Rattle.std.specs.Prelude.{◌≡◌, false, List, [], ◌∷◌}
use Rattle.sf_grid.specs.Plane.{Coordinates}
use Rattle.sf_geometry.specs.Lists.{is_same}

-- no two neighbours are equal
abbrev pub IsTightFrom : Coordinates → List Coordinates → Type 0
IsTightFrom p [] = Unit {0}
IsTightFrom p (q ∷ qs) = (is_same p q ≡ false) × IsTightFrom q qs

abbrev pub IsTight : List Coordinates → Type 0
IsTight [] = Unit {0}
IsTight (p ∷ ps) = IsTightFrom p ps
