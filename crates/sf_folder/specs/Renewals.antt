-- Which journal counts, and the calls of writing it anew.
use Rattle.std.specs.Prelude.{◌≡◌, ◌≢◌, ℕ, List, ◌∷◌, ◌++◌, Option, None, Some}
use Rattle.sf_folder.specs.declared.choosing.Chosen.{Chosen}
use Rattle.sf_folder.specs.declared.choosing.Chosen.TheVariants.{UnderItsName, Beside, NoneYet}
use Rattle.sf_folder.specs.declared.names.Name.TheVariants.{JournalBeside}
use Rattle.sf_folder.specs.Calls.{Call, Begins, Writes, SyncsFile, SyncsFolder}
use Rattle.sf_folder.specs.Openings.{HasHead}
use Rattle.sf_folder.specs.Saves.{journal_calls}

-- the journal counts that has the head: that under its name, else that beside; there is none yet where none is under its
-- name and none beside has it; and otherwise none counts
abbrev pub Chooses : List ℕ → Option (List ℕ) → Option (List ℕ) → Option Chosen → Type 0
Chooses head journal beside None = (HasHead head journal → ⊥) × (HasHead head beside → ⊥) × (journal ≢ None)
Chooses head journal beside (Some UnderItsName) = HasHead head journal
Chooses head journal beside (Some Beside) = (HasHead head journal → ⊥) × HasHead head beside
Chooses head journal beside (Some NoneYet) = (journal ≡ None) × (HasHead head beside → ⊥)

-- a journal that a save has left beside takes its place, once that of the store is on the disk for certain
abbrev pub settling_calls : List Call
settling_calls = SyncsFolder ∷ journal_calls

-- the journal is written anew beside, and takes the place of the old one
abbrev pub rewriting_calls : List ℕ → List ℕ → List Call
rewriting_calls head records = SyncsFolder ∷ Begins JournalBeside ∷ Writes JournalBeside head ∷ Writes JournalBeside records
    ∷ SyncsFile JournalBeside ∷ SyncsFolder ∷ journal_calls

-- the journal that counts is written anew
abbrev pub renewing_calls : Chosen → List ℕ → List ℕ → List Call
renewing_calls Beside head records = settling_calls ++ rewriting_calls head records
renewing_calls chosen head records = rewriting_calls head records
