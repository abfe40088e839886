-- What replaying the edits of a journal gives.
use Rattle.std.specs.Prelude.{◌≡◌, ℕ, Bool, List, [], ◌∷◌, ◌++◌, length, None, if◌then◌else◌}
use Rattle.std.specs.List.{AllByRecursion}
use Rattle.sf_text_lines.specs.Lines.{HasNoFeed}
use Rattle.sf_journal.specs.Records.{records, sum_behind}
use Rattle.sf_journal.specs.Readings.{Ending, Reads}
use Rattle.sf_journal.specs.Readings.Ending.{Whole, CutShort, Damaged as IsDamaged}
use Rattle.sf_console.specs.History.{Machine}
use Rattle.sf_console.specs.Readings.{text_reading}
use Rattle.sf_keeping.specs.Changes.{Leads, changed}
use Rattle.sf_keeping.specs.declared.replaying.Replayed.{Replayed}
use Rattle.sf_keeping.specs.declared.replaying.ReplayFault.{ReplayFault}
use Rattle.sf_keeping.specs.declared.replaying.ReplayFault.TheVariants.{Memory, Damaged, NotAccepted}

-- how the bytes end
abbrev pub ending_of : Bool → Ending
ending_of cut_short = if cut_short then CutShort else Whole

-- the texts that stand in the bytes were replayed, one after another
pub record IsReplayed (sum : ℕ) (bytes : List ℕ) (old : Machine) (done : Replayed) (new : Machine) : Type 0 where
  pub texts : List (List ℕ)
  pub reads : Reads sum bytes texts (ending_of done.is_cut_short)
  pub leads : Leads old texts new
  pub behind : done.sum ≡ sum_behind sum texts
  pub rest : List ℕ
  pub parts : bytes ≡ records sum texts ++ rest
  pub whole : done.whole ≡ length (records sum texts)

-- it failed at a record: one that is no record behind those before it, or whose text was not accepted
abbrev pub FailsAt : ℕ → List ℕ → Machine → ReplayFault → Type 0
FailsAt sum bytes old Memory = Unit {0}
FailsAt sum bytes old (Damaged place) =
    (texts : List (List ℕ)) × (machine : Machine) × Reads sum bytes texts IsDamaged × Leads old texts machine × (place ≡ length (records sum texts))
FailsAt sum bytes old (NotAccepted place) =
    (texts : List (List ℕ)) × (text : List ℕ) × (rest : List ℕ) × (machine : Machine)
    × (bytes ≡ records sum (texts ++ text ∷ []) ++ rest) × Leads old texts machine × (place ≡ length (records sum texts))
    × (changed machine (text_reading text) ≡ None) × AllByRecursion HasNoFeed (texts ++ text ∷ [])
