-- What a store opens to: the bytes of its file, and the texts of the journal that goes on from that file.
use Rattle.std.specs.Prelude.{◌≡◌, ◌⊎◌, ℕ, List, [], ◌++◌, Option, None, Some}
use Rattle.sf_journal.specs.Records.{head_of, first_sum}
use Rattle.sf_journal.specs.Readings.{Ending, Whole, CutShort, Reads}
use Rattle.sf_folder.specs.declared.names.Name.TheVariants.{Store, Journal, JournalBeside}
use Rattle.sf_folder.specs.Disks.{Contents}

-- the bytes of a file; one that isn't there has none
abbrev pub bytes_of : Option (List ℕ) → List ℕ
bytes_of None = []
bytes_of (Some bytes) = bytes

-- a journal that is there, and begins with a head
abbrev pub HasHead : List ℕ → Option (List ℕ) → Type 0
HasHead head None = ⊥
HasHead head (Some journal) = (records : List ℕ) × (journal ≡ head ++ records)

-- a journal that is there, and begins with the head that names the file
abbrev pub GoesOnFrom : List ℕ → Option (List ℕ) → Type 0
GoesOnFrom file journal = HasHead (head_of file) journal

-- the last record is whole, or was not written to its end
abbrev pub IsSound : Ending → Type 0
IsSound ending = (ending ≡ Whole) ⊎ (ending ≡ CutShort)

-- a journal that goes on from the file, with these texts; a last one that was not written to its end is dropped
abbrev pub HasTexts : List ℕ → List (List ℕ) → Option (List ℕ) → Type 0
HasTexts file texts None = ⊥
HasTexts file texts (Some journal) =
    (records : List ℕ) × (journal ≡ head_of file ++ records) × (ending : Ending) × Reads (first_sum file) records texts ending × IsSound ending

-- The journal counts that goes on from the store's file: that under its name, else that beside. Where there is none under
-- its name, and none beside that goes on, there are no texts. Anything else opens to nothing.
abbrev pub OpensTo : Contents → List ℕ → List (List ℕ) → Type 0
OpensTo contents file texts = (bytes_of (contents Store) ≡ file)
    × (HasTexts file texts (contents Journal)
    ⊎ ((GoesOnFrom file (contents Journal) → ⊥) × HasTexts file texts (contents JournalBeside))
    ⊎ ((contents Journal ≡ None) × (GoesOnFrom file (contents JournalBeside) → ⊥) × (texts ≡ [])))
