-- Internal: who wants to trust the program need not read this file.
-- The row of a feature that is near, as the code has the square of its distance.
use Rattle.std.specs.Prelude.{ℕ, List}
use Rattle.sf_near.specs.declared.distant.Distant.{Distant}
use Rattle.sf_near.specs.Found.{distance_told}
use Rattle.sf_console.specs.Answers.{nearest_row}

abbrev pub told_row : Distant → List ℕ
told_row distant = nearest_row (distance_told distant)
