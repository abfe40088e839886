-- Internal: who wants to trust the program need not read this file.
-- How small a geometry is for its contact with any other to be known: no search is given up then.
use Rattle.std.specs.Prelude.{ℕ}

-- the most points
abbrev pub few_points : ℕ
few_points = 16
