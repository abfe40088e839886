-- A folder on a disk that may crash at any moment: which bytes stand under its names afterwards.
use Rattle.std.specs.Prelude.{◌≡◌, ◌⊎◌, ℕ, zero, suc, ◌≤◌, List, [], ◌∷◌, ◌++◌, length, map, slice_get, ⊤, Option, None, Some, option_map, if◌then◌else◌, ◌==◌}
use Rattle.sf_folder.specs.declared.names.Name.{Name}
use Rattle.sf_folder.specs.declared.names.Name.TheVariants.{Store, StoreBeside, Journal, JournalBeside}
use Rattle.sf_folder.specs.Calls.{Call, Begins, Writes, SyncsFile, Renames, SyncsFolder}

-- the bytes that stand under each name, where there is a file
abbrev pub Contents : Type 0
Contents = Name → Option (List ℕ)

-- a file: what was written to it, and how many bytes of that were synced
pub record File : Type 0 where
  pub bytes : List ℕ
  pub synced : ℕ

-- which file stands under each name, by its number
abbrev pub Names : Type 0
Names = Name → Option ℕ

-- the files; the names as they are seen; and the names that a crash may leave, each as one possibility
pub record Disk : Type 0 where
  pub files : List File
  pub names : Names
  pub possible : List Names

-- the number of a name
abbrev pub number_of : Name → ℕ
number_of Store = 0
number_of StoreBeside = 1
number_of Journal = 2
number_of JournalBeside = 3

-- names with another file, or none, under one of them
abbrev pub with_name : Name → Option ℕ → Names → Names
with_name name file names = λ other. if number_of other == number_of name then file else names other

-- a change of the names is seen at once, and a crash may leave it or not
abbrev pub changed : (Names → Names) → Disk → Disk
changed change disk = record disk { names = change disk.names; possible = disk.possible ++ map change disk.possible }

-- files with another one in the place of that of a number
abbrev pub with_file : (File → File) → ℕ → List File → List File
with_file change number [] = []
with_file change zero (file ∷ files) = change file ∷ files
with_file change (suc number) (file ∷ files) = file ∷ with_file change number files

-- a disk with a change of the file under a name
abbrev pub with_file_at : Option ℕ → (File → File) → Disk → Disk
with_file_at None change disk = disk
with_file_at (Some number) change disk = record disk { files = with_file change number disk.files }

-- a file takes a name, and no longer has another one
abbrev pub renamed : Option ℕ → Name → Name → Disk → Disk
renamed None from to disk = disk
renamed (Some number) from to disk = changed (λ names. with_name to (Some number) (with_name from None names)) disk

-- a disk after a call: after one that asks nothing of it, or of which it isn't known what it did, it is as it was
abbrev pub after_call : Disk → Call → Disk
after_call disk (Begins name) =
    changed (with_name name (Some (length disk.files))) (record disk { files = disk.files ++ record { bytes = []; synced = 0 } ∷ [] })
after_call disk (Writes name bytes) = with_file_at (disk.names name) (λ file. record file { bytes = file.bytes ++ bytes }) disk
after_call disk (SyncsFile name) = with_file_at (disk.names name) (λ file. record file { synced = length file.bytes }) disk
after_call disk (Renames from to) = renamed (disk.names from) from to disk
after_call disk SyncsFolder = record disk { possible = disk.names ∷ [] }
after_call disk other = disk

-- a disk after calls
abbrev pub after : Disk → List Call → Disk
after disk [] = disk
after disk (call ∷ calls) = after (after_call disk call) calls

-- a file of these bytes, all synced
abbrev pub synced_file : Option (List ℕ) → File
synced_file None = record { bytes = []; synced = 0 }
synced_file (Some bytes) = record { bytes = bytes; synced = length bytes }

-- the names of files that are there
abbrev pub names_of : Contents → Names
names_of contents = λ name. option_map (λ _. number_of name) (contents name)

-- a disk on which these files and their names are synced
abbrev pub disk_of : Contents → Disk
disk_of contents = record {
  files = synced_file (contents Store) ∷ synced_file (contents StoreBeside) ∷ synced_file (contents Journal) ∷ synced_file (contents JournalBeside) ∷ [];
  names = names_of contents;
  possible = names_of contents ∷ [];
}

-- a crash leaves a front of a file, with all that was synced
pub record IsLeftOf (file : File) (bytes : List ℕ) : Type 0 where
  pub rest : List ℕ
  pub front : file.bytes ≡ bytes ++ rest
  pub synced : file.synced ≤ length bytes

-- this stands under a name that a crash has left with a file, or without one
abbrev pub IsLeftAt : List File → Option ℕ → Option (List ℕ) → Type 0
IsLeftAt files None None = ⊤
IsLeftAt files None (Some bytes) = ⊥
IsLeftAt files (Some number) None = ⊥
IsLeftAt files (Some number) (Some bytes) = (file : File) × (slice_get files number ≡ Some file) × IsLeftOf file bytes

-- one of these has it
abbrev pub OneOf : (Names → Type 0) → List Names → Type 0
OneOf P [] = ⊥
OneOf P (names ∷ others) = P names ⊎ OneOf P others

-- a crash may leave these bytes under the names
abbrev pub MayLeave : Disk → Contents → Type 0
MayLeave disk contents = OneOf (λ names. (name : Name) → IsLeftAt disk.files (names name) (contents name)) disk.possible
