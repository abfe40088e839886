-- What is asked of the system for a store that is kept, call by call.
use Rattle.std.specs.Prelude.{◌≡◌, ◌⊎◌, ℕ, List, [], ◌∷◌, ◌++◌, ⊤, Option, None, Some}
use Rattle.sf_folder.specs.declared.names.Name.{Name}

-- A new empty file takes a name; bytes are put behind those of a file; a file is synced; a file takes another name, in
-- the place of the file that had it; the names are synced. The lock is taken. The store's file is not there; or it is opened to be
-- read, with the bytes that it has, where they are known; nobody has written to it since. The bytes of a file are read, where it is
-- there. Somebody is warned that a record is dropped. Bytes are put out. The store's file is known to be the one of this length and
-- this SHA-256. What was asked of the lock or of a file is refused, or fails. A writing, a sync, or what puts bytes out fails: it may have
-- taken place or not, and of the bytes a front
pub data Call : Type 0 where
  Begins : Name → Call
  Writes : Name → List ℕ → Call
  SyncsFile : Name → Call
  Renames : Name → Name → Call
  SyncsFolder : Call
  Locks : Call
  FindsNone : Call
  Opens : Option (List ℕ) → Call
  Stays : Call
  Reads : Name → Option (List ℕ) → Call
  Warns : Call
  Answers : List ℕ → Call
  Knows : ℕ → List ℕ → Call
  Refuses : Call
  WriteFails : Name → List ℕ → Call
  SyncFails : Name → Call
  AnswerFails : List ℕ → Call

-- a call, or a part of it: of a writing a front of its bytes
abbrev pub IsPartOf : Call → Call → Type 0
IsPartOf part (Writes name bytes) = (front : List ℕ) × (rest : List ℕ) × (bytes ≡ front ++ rest) × (part ≡ Writes name front)
IsPartOf part call = part ≡ call

-- the calls that were made are a front of those that were wanted, and perhaps a part of the next one
abbrev pub IsFrontOf : List Call → List Call → Type 0
IsFrontOf [] wanted = ⊤
IsFrontOf (call ∷ made) [] = ⊥
IsFrontOf (call ∷ made) (next ∷ wanted) = ((call ≡ next) × IsFrontOf made wanted) ⊎ (IsPartOf call next × (made ≡ []))

-- known calls grow by these
abbrev pub Does : Option (List Call) → Option (List Call) → List Call → Type 0
Does None new calls = ⊤
Does (Some old) None calls = ⊥
Does (Some old) (Some new) calls = new ≡ old ++ calls

-- known calls grow by a front of these
abbrev pub Tries : Option (List Call) → Option (List Call) → List Call → Type 0
Tries old new wanted = (made : List Call) × Does old new made × IsFrontOf made wanted
