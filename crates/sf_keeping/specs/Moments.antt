-- What holds at each moment of a session that is kept in a journal.
use Rattle.std.specs.Prelude.{◌≡◌, ℕ, List, ◌++◌}
use Rattle.sf_journal.specs.Records.{records}
use Rattle.sf_journal.specs.Fronts.{IsFrontOf}
use Rattle.sf_console.specs.History.{Machine}
use Rattle.sf_console.specs.Requests.{Request}
use Rattle.sf_keeping.specs.Desks.{Call, Standing, nothing_yet, after_calls}
use Rattle.sf_keeping.specs.Kept.{Keeps}

-- What was put out answers no more than some first of what was asked, and the records of all that was accepted of it are kept,
-- whatever comes; the journal has nothing but records of what was accepted. All that was asked leads to the last machine.
pub record IsCovered (sum : ℕ) (old : Machine) (asked : List Request) (last : Machine) (standing : Standing) : Type 0 where
  pub first : List Request
  pub later : List Request
  pub parts : asked ≡ first ++ later
  pub output : List ℕ
  pub texts : List (List ℕ)
  pub mid : Machine
  pub answers : Keeps old first output texts mid
  pub later_output : List ℕ
  pub later_texts : List (List ℕ)
  pub rest : Keeps mid later later_output later_texts last
  pub answered : IsFrontOf standing.answered output
  pub kept : IsFrontOf (records sum texts) standing.kept
  pub journal : IsFrontOf (standing.kept ++ standing.waiting) (records sum (texts ++ later_texts))

-- it is so after each of the calls, from the first on
abbrev pub AtEachMoment : ℕ → Machine → List Request → Machine → List Call → Type 0
AtEachMoment sum old asked last calls =
    (before after : List Call) → calls ≡ before ++ after → IsCovered sum old asked last (after_calls nothing_yet before)
