-- Internal: who wants to trust the program need not read this file.
-- Edges and dots.
use Rattle.std.specs.Prelude.{◌≢◌, ℕ}
use Rattle.sf_strips.specs.declared.piece.Piece.{Piece}
use Rattle.sf_strips.specs.declared.piece.Piece.TheVariants.{Edge, Dot}

-- the ends of an edge differ
abbrev pub HasLength : Piece → Type 0
HasLength (Edge a b) = a ≢ b
HasLength (Dot a) = Unit {0}

-- how many pieces are looked at together at most; those of two geometries are fewer by far
abbrev pub pieces_max : ℕ
pieces_max = 16777215

-- how many vertices they have at most
abbrev pub vertices_max : ℕ
vertices_max = 33554430
