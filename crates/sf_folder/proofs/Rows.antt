-- Worked rows: which files a crash may leave under Store, StoreBeside, Journal and JournalBeside, computed.
use Rattle.std.specs.Prelude.{◌≡◌, ℕ, List, [], ◌∷◌, ◌++◌, map, Option, None, Some, refl}
use Rattle.sf_folder.specs.declared.names.Name.TheVariants.{Store, StoreBeside, Journal, JournalBeside}
use Rattle.sf_folder.specs.Calls.{Call, Begins, SyncsFile, Renames, SyncsFolder}
use Rattle.sf_folder.specs.Disks.{Contents, Names, disk_of, after}
use Rattle.sf_folder.specs.Saves.{writing_calls, beside_calls, replacing_calls, save_calls}

-- a store of 1 2, which is file 0, with a journal of 3, which is file 2
abbrev old : Contents
old Store = Some (1 ∷ 2 ∷ [])
old StoreBeside = None
old Journal = Some (3 ∷ [])
old JournalBeside = None

abbrev row : Names → List (Option ℕ)
row names = names Store ∷ names StoreBeside ∷ names Journal ∷ names JournalBeside ∷ []

abbrev rows : List Call → List (List (Option ℕ))
rows calls = map row (after (disk_of old) calls).possible

-- the new store is 7 8 9, written in two pieces: file 4; and its journal is file 5
abbrev pieces : List (List ℕ)
pieces = (7 ∷ []) ∷ (8 ∷ 9 ∷ []) ∷ []

-- once the file has its place, the new journal is beside
replaced-row : rows (replacing_calls pieces) ≡ (Some 4 ∷ None ∷ Some 2 ∷ Some 5 ∷ []) ∷ []
replaced-row = refl

-- once both have their places
saved-row : rows (save_calls pieces) ≡ (Some 4 ∷ None ∷ Some 5 ∷ None ∷ []) ∷ []
saved-row = refl

-- wrong: where the journal takes its place before the store does, the old store may have the new journal
wrong-order-row : rows (writing_calls pieces ++ (beside_calls [] ++ Renames JournalBeside Journal ∷ Renames StoreBeside Store ∷ []))
    ≡ (Some 0 ∷ Some 4 ∷ Some 2 ∷ Some 5 ∷ []) ∷ (Some 0 ∷ Some 4 ∷ Some 5 ∷ None ∷ [])
    ∷ (Some 4 ∷ None ∷ Some 2 ∷ Some 5 ∷ []) ∷ (Some 4 ∷ None ∷ Some 5 ∷ None ∷ []) ∷ []
wrong-order-row = refl

-- wrong: where the folder isn't synced before the store takes its place, the new store may have the old journal and none beside
unsynced-folder-row : rows (Begins StoreBeside ∷ SyncsFolder ∷ Begins JournalBeside ∷ SyncsFile JournalBeside ∷ Renames StoreBeside Store ∷ [])
    ≡ (Some 0 ∷ Some 4 ∷ Some 2 ∷ None ∷ []) ∷ (Some 0 ∷ Some 4 ∷ Some 2 ∷ Some 5 ∷ [])
    ∷ (Some 4 ∷ None ∷ Some 2 ∷ None ∷ []) ∷ (Some 4 ∷ None ∷ Some 2 ∷ Some 5 ∷ []) ∷ []
unsynced-folder-row = refl
