-- How a session saves.
use Rattle.std.specs.Prelude.{◌≡◌, ◌⊎◌, ℕ, List, [], ◌∷◌, Option}
use Rattle.sf_journal.specs.Crc.{crc}
use Rattle.sf_journal.specs.Records.{head_with}
use Rattle.sf_folder.specs.Calls.{Call, Does, Knows}
use Rattle.sf_saving.specs.Canonical.{canonical_ruled}
use Rattle.sf_keeping.specs.History.{Machine, fresh_under, ruled_now}
use Rattle.sf_folder.specs.Saves.{Saves, TriesToSave}

-- the bytes of the file of what a machine has
abbrev pub file_of : Machine → List ℕ
file_of machine = canonical_ruled (ruled_now machine)

-- the history ended: what it has stays, with neither past nor future
abbrev pub IsEnded : Machine → Machine → Type 0
IsEnded old new = new ≡ fresh_under (ruled_now old)

-- These bytes were saved, and are known to be those of the store's file. The sum is that behind the head of its journal, which has no
-- record yet.
pub record HasSaved (bytes : List ℕ) (before after : Option (List Call)) (sum : ℕ) : Type 0 where
  pub size : ℕ
  pub digest : List ℕ
  pub written : Option (List Call)
  pub saves : Saves bytes size digest before written
  pub knows : Does written after (Knows size digest ∷ [])
  pub behind : sum ≡ crc (head_with size digest)

-- a save of these bytes that went wrong; or it did not, and no memory was found behind it
abbrev pub IsUnsaved : List ℕ → Option (List Call) → Option (List Call) → Type 0
IsUnsaved bytes before after = TriesToSave bytes before after
    ⊎ ((size : ℕ) × (digest : List ℕ) × (written : Option (List Call)) × Saves bytes size digest before written × Does written after (Knows size digest ∷ []))

-- the sum behind the head of the journal that goes on from a file of this length and this SHA-256
abbrev pub IsSumBehind : ℕ → List ℕ → ℕ → Type 0
IsSumBehind size digest sum = sum ≡ crc (head_with size digest)
