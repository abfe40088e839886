-- The calls of a save, and of writing the journal anew.
use Rattle.std.specs.Prelude.{◌≡◌, ◌⊎◌, ℕ, List, [], ◌∷◌, ◌++◌, length, map, ⊤, Option, None, Some}
use Rattle.sha2.specs.Sha256.{sha256}
use Rattle.sf_journal.specs.Records.{head_of}
use Rattle.sf_folder.specs.declared.names.Name.TheVariants.{Store, StoreBeside, Journal, JournalBeside}
use Rattle.sf_folder.specs.Calls.{Call, Begins, Writes, SyncsFile, Renames, SyncsFolder, Does, Tries}

-- the bytes of pieces, one after another
abbrev pub joined : List (List ℕ) → List ℕ
joined [] = []
joined (piece ∷ pieces) = piece ++ joined pieces

-- the file beside is written in pieces
abbrev pub pieces_calls : List (List ℕ) → List Call
pieces_calls pieces = map (Writes StoreBeside) pieces

-- the file beside is begun, and written in pieces
abbrev pub writing_calls : List (List ℕ) → List Call
writing_calls pieces = Begins StoreBeside ∷ pieces_calls pieces

-- a journal is begun beside
abbrev pub beginning_calls : List ℕ → List Call
beginning_calls head = Begins JournalBeside ∷ Writes JournalBeside head ∷ []

-- the file beside is synced; the journal beside is written and synced; their names are synced
abbrev pub beside_calls : List ℕ → List Call
beside_calls head = SyncsFile StoreBeside ∷ Begins JournalBeside ∷ Writes JournalBeside head ∷ SyncsFile JournalBeside ∷ SyncsFolder ∷ []

-- the file takes its place
abbrev pub store_calls : List Call
store_calls = Renames StoreBeside Store ∷ SyncsFolder ∷ []

-- the journal takes its place
abbrev pub journal_calls : List Call
journal_calls = Renames JournalBeside Journal ∷ SyncsFolder ∷ []

-- both take their places
abbrev pub placing_calls : List Call
placing_calls = store_calls ++ journal_calls

-- what a save does once the file beside is written
abbrev pub finishing_calls : List ℕ → List Call
finishing_calls head = beside_calls head ++ placing_calls

-- a save of pieces
abbrev pub save_calls : List (List ℕ) → List Call
save_calls pieces = writing_calls pieces ++ finishing_calls (head_of (joined pieces))

-- a save of pieces, up to where the file has its place on the disk
abbrev pub replacing_calls : List (List ℕ) → List Call
replacing_calls pieces = writing_calls pieces ++ (beside_calls (head_of (joined pieces)) ++ store_calls)

-- a save of these bytes, of which that is the length and the SHA-256
abbrev pub Saves : List ℕ → ℕ → List ℕ → Option (List Call) → Option (List Call) → Type 0
Saves bytes size digest None new = ⊤
Saves bytes size digest (Some old) new = (size ≡ length bytes) × (digest ≡ sha256 bytes)
    × (pieces : List (List ℕ)) × (joined pieces ≡ bytes) × Does (Some old) new (save_calls pieces)

-- a save of these bytes that went wrong: a front of it, or a front of writing something else beside
abbrev pub TriesToSave : List ℕ → Option (List Call) → Option (List Call) → Type 0
TriesToSave bytes old new = ((pieces : List (List ℕ)) × Tries old new (writing_calls pieces))
    ⊎ ((pieces : List (List ℕ)) × (joined pieces ≡ bytes) × Tries old new (save_calls pieces))
