-- What a crash may leave of a journal.
use Rattle.std.specs.Prelude.{◌≡◌, ◌≢◌, ℕ, List, ◌++◌}
use Rattle.std.specs.List.{AllByRecursion}
use Rattle.sf_text_lines.specs.Lines.{HasNoFeed}
use Rattle.sf_journal.specs.Records.{records}
use Rattle.sf_journal.specs.Readings.{Ending, Reads}
use Rattle.sf_journal.specs.Readings.Ending.{Damaged}

-- a front of bytes
abbrev pub IsFrontOf : List ℕ → List ℕ → Type 0
IsFrontOf front bytes = (rest : List ℕ) × (bytes ≡ front ++ rest)

-- the bytes read as a front of these texts, and are not damaged
pub record ReadsFront (sum : ℕ) (texts : List (List ℕ)) (bytes : List ℕ) : Type 0 where
  pub first : List (List ℕ)
  pub later : List (List ℕ)
  pub parts : texts ≡ first ++ later
  pub ending : Ending
  pub reads : Reads sum bytes first ending
  pub undamaged : ending ≢ Damaged

-- whatever front of the records of texts a crash leaves: where it has all records of the first of them, it reads as these and
-- a front of the others
abbrev pub FrontLaw : Type 0
FrontLaw =
    (sum : ℕ) (texts more : List (List ℕ)) (bytes : List ℕ) → AllByRecursion HasNoFeed (texts ++ more)
    → IsFrontOf (records sum texts) bytes → IsFrontOf bytes (records sum (texts ++ more))
    → (first : List (List ℕ)) × (later : List (List ℕ)) × (ending : Ending) × (more ≡ first ++ later) × Reads sum bytes (texts ++ first) ending × (ending ≢ Damaged)
