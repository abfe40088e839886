-- Internal: who wants to trust the program need not read this file.
-- What is asked of a matrix, and whether it is as is asked.
use Rattle.std.specs.Prelude.{◌≡◌, Bool, false, ◌||◌, not, List}
use Rattle.sf_plane.specs.declared.dim.Dim.{Dim}
use Rattle.sf_known.specs.declared.goal.Goal.{Goal}
use Rattle.sf_known.specs.declared.goal.Goal.TheVariants.{Match, MatchOne, Miss, Never}
use Rattle.sf_known.specs.Patterns.{matches}

-- the entries are as is asked: they match the pattern, or one of three, or don't match it
abbrev pub is_met : Goal → List Dim → Bool
is_met (Match letters) m = matches letters m
is_met (MatchOne letters others third) m = matches letters m || matches others m || matches third m
is_met (Miss letters) m = not (matches letters m)
is_met Never m = false

-- what is asked of a matrix is just that it passes the test
abbrev pub AsksFor : (List Dim → Bool) → Goal → Type 0
AsksFor test goal = (m : List Dim) → is_met goal m ≡ test m
