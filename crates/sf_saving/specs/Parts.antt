-- Internal: who wants to trust the program need not read this file.
-- The parts of a pattern's text in the order in which they are written.
use Rattle.std.specs.Prelude.{ℕ, List, [], ◌∷◌}
use Rattle.sf_known.specs.declared.letter.Letter.{Letter}
use Rattle.sf_known.specs.Patterns.{letter_character}

-- the byte of a letter
abbrev pub letter_bytes : Letter → List ℕ
letter_bytes letter = letter_character letter ∷ []
