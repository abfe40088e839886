-- Internal: who wants to trust the program need not read this file.
-- What is known of the file beside while it is written.
use Rattle.std.specs.Prelude.{◌≡◌, ℕ, ◌≤◌, Bool, false, List, [], ◌++◌, length, map, take, drop, ⊤, Option, None, Some}
use Rattle.sha2.specs.Sha256.{sha256}
use Rattle.sha2.specs.Hashers.{Holds256}
use Rattle.sha2.specs.declared.Sha256.{Sha256}
use Rattle.sf_folder.specs.Calls.{Call, Writes, Does, Tries}
use Rattle.sf_folder.specs.Saves.{joined, pieces_calls}

-- the bytes of a call
abbrev pub bytes_of_call : Call → List ℕ
bytes_of_call (Writes name bytes) = bytes
bytes_of_call call = []

-- the pieces that were written behind these calls
abbrev pub pieces_behind : List Call → List Call → List (List ℕ)
pieces_behind before calls = map bytes_of_call (drop (length before) calls)

-- so many bytes were written for certain
abbrev pub written_behind : Option (List Call) → Option (List Call) → ℕ → Option (List ℕ)
written_behind (Some before) (Some calls) size = Some (take size (joined (pieces_behind before calls)))
written_behind before calls size = None

-- a file was begun by these calls, and so many of the bytes that were written are counted and hashed: all, or where a
-- writing failed a front
pub record IsWriting (before calls : List Call) (hasher : Sha256) (size : ℕ) (failed : Bool) : Type 0 where
  pub pieces : List (List ℕ)
  pub made : calls ≡ before ++ pieces_calls pieces
  pub front : size ≤ length (joined pieces)
  pub whole : failed ≡ false → size ≡ length (joined pieces)
  pub hashed : Holds256 hasher (take size (joined pieces))

-- the same, where calls are known
abbrev pub Continues : Option (List Call) → Option (List Call) → Sha256 → ℕ → Bool → Type 0
Continues None calls hasher size failed = ⊤
Continues (Some before) None hasher size failed = ⊥
Continues (Some before) (Some calls) hasher size failed = IsWriting before calls hasher size failed

-- the pieces that were written, where calls are known
abbrev pub known_pieces : Option (List Call) → Option (List Call) → List (List ℕ)
known_pieces (Some before) (Some calls) = pieces_behind before calls
known_pieces before calls = []

-- a file was begun by these calls and written, and that is the length and the SHA-256 of all that was written
abbrev pub HasSum : Option (List Call) → Option (List Call) → ℕ → List ℕ → Type 0
HasSum None calls size digest = ⊤
HasSum (Some before) calls size digest = let pieces = known_pieces (Some before) calls in
    Does (Some before) calls (pieces_calls pieces) × (size ≡ length (joined pieces)) × (digest ≡ sha256 (joined pieces))

-- these bytes were written, of which that is the length and the SHA-256
abbrev pub Wrote : List ℕ → ℕ → List ℕ → Option (List Call) → Option (List Call) → Type 0
Wrote bytes size digest None new = ⊤
Wrote bytes size digest (Some old) new = (size ≡ length bytes) × (digest ≡ sha256 bytes)
    × (pieces : List (List ℕ)) × (joined pieces ≡ bytes) × Does (Some old) new (pieces_calls pieces)

-- something was written, the last piece perhaps in part
abbrev pub TriesToWrite : Option (List Call) → Option (List Call) → Type 0
TriesToWrite old new = (pieces : List (List ℕ)) × Tries old new (pieces_calls pieces)
