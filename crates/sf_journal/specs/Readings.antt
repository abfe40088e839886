-- What stands in the bytes of a journal, of which a crash may have left a front.
use Rattle.std.specs.Prelude.{◌≡◌, ◌⊎◌, ℕ, true, false, List, [], ◌∷◌}
use Rattle.sf_text_lines.specs.Lines.{Line, lines_of}
use Rattle.sf_journal.specs.Records.{line_of, sum_with}

-- how the records of a journal end: with a whole one; with one that was not written to its end; or with a line that is
-- no record behind those before it
pub data Ending : Type 0 where
  Whole : Ending
  CutShort : Ending
  Damaged : Ending

-- these texts stand in the lines behind a sum, and then the lines end so
abbrev pub AreIn : ℕ → List Line → List (List ℕ) → Ending → Type 0
AreIn sum [] [] ending = ending ≡ Whole
AreIn sum [] (text ∷ texts) ending = ⊥
AreIn sum (line ∷ lines) [] ending =
    ((line.ended ≡ false) × (ending ≡ CutShort))
    ⊎ ((line.ended ≡ true) × ((text : List ℕ) → line.bytes ≡ line_of sum text → ⊥) × (ending ≡ Damaged))
AreIn sum (line ∷ lines) (text ∷ texts) ending =
    (line.ended ≡ true) × (line.bytes ≡ line_of sum text) × AreIn (sum_with sum text) lines texts ending

-- these texts stand in the bytes behind a sum, and then the bytes end so
abbrev pub Reads : ℕ → List ℕ → List (List ℕ) → Ending → Type 0
Reads sum bytes texts ending = AreIn sum (lines_of bytes) texts ending
