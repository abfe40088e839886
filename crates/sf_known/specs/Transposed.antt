-- Internal: who wants to trust the program need not read this file.
-- Matrices and patterns of two geometries the other way round.
use Rattle.std.specs.Prelude.{List, [], ◌∷◌}
use Rattle.sf_known.specs.declared.known.Known.{Known}

-- of nine entries or letters, row by row, the columns as rows
abbrev pub transposed : {X : Type 0} → List X → List X
transposed (ii ∷ ib ∷ ie ∷ bi ∷ bb ∷ be ∷ ei ∷ eb ∷ ee ∷ rest) = ii ∷ bi ∷ ei ∷ ib ∷ bb ∷ eb ∷ ie ∷ be ∷ ee ∷ []
transposed xs = []

-- what is known of the matrix of two geometries, as known of them the other way round
abbrev pub known_transposed : Known → Known
known_transposed known = record { least = transposed known.least; most = transposed known.most; contact = known.contact }
