-- Internal: who wants to trust the program need not read this file.
-- The cells of a list of pieces: of each sample its dimension, the pieces on it and the edges above it.
use Rattle.std.specs.Prelude.{ℕ, ◌+◌, Bool, List, [], ◌∷◌, map, if◌then◌else◌}
use Rattle.sf_strips.specs.declared.piece.Piece.{Piece}
use Rattle.sf_cells.specs.declared.cell.Cell.{Cell}
use Rattle.sf_cells.specs.Pieces.{is_on, is_above}
use Rattle.sf_cells.specs.Samples.{Sample, samples}

-- the numbers, from k on, of the members that pass a test
abbrev pub numbers_from : {A : Type 0} → ℕ → (A → Bool) → List A → List ℕ
numbers_from k test [] = []
numbers_from k test (x ∷ xs) =
    if test x then k ∷ numbers_from (k + 1) test xs else numbers_from (k + 1) test xs

-- the cell of a sample
abbrev pub cell_of : List Piece → Sample → Cell
cell_of pieces s =
    record {
      dim = s.dim;
      on = numbers_from 0 (is_on s.point) pieces;
      above = numbers_from 0 (is_above s.point) pieces;
    }

-- the cells, in the order of their samples
abbrev pub cells : List Piece → List Cell
cells pieces = map (cell_of pieces) (samples pieces)
