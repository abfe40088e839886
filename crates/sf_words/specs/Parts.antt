-- The parts of a text, between carriage returns.
use Rattle.std.specs.Prelude.{ℕ, Bool, ◌==◌, List, [], ◌∷◌, if◌then◌else◌}

-- whether a byte is a carriage return
abbrev pub is_return : ℕ → Bool
is_return b = b == 13

-- a byte in front of the first part
abbrev pub onto_first : ℕ → List (List ℕ) → List (List ℕ)
onto_first b [] = (b ∷ []) ∷ []
onto_first b (part ∷ parts) = (b ∷ part) ∷ parts

-- the parts of a text, between carriage returns; one alone where it has none
abbrev pub parts_of : List ℕ → List (List ℕ)
parts_of [] = [] ∷ []
parts_of (b ∷ bytes) = let rest = parts_of bytes in if is_return b then [] ∷ rest else onto_first b rest
