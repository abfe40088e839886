-- Internal: who wants to trust the program need not read this file.
-- What a walk over edges searches for.
use Rattle.std.specs.Prelude.{List, [], ◌∷◌, ◌⊎◌}
use Rattle.sf_grid.specs.Edge.{Edge}

-- one of the edges is such
abbrev pub HasEdge : (Edge → Type 0) → List Edge → Type 0
HasEdge P [] = ⊥
HasEdge P (e ∷ es) = P e ⊎ HasEdge P es
