-- The lines of an input.
use Rattle.std.specs.Prelude.{◌≡◌, ℕ, Bool, true, false, ◌==◌, ◌-◌, ◌⊎◌, slice_index, take, List, [], ◌∷◌, ◌++◌, length, filter, if◌then◌else◌}
use Rattle.std.specs.List.{list_any}

-- how many bytes a line has at most
abbrev pub line_max : ℕ
line_max = 4194304

-- the bytes of a line before its line feed, and whether it has one
pub record Line : Type 0 where
  pub bytes : List ℕ
  pub ended : Bool

-- a byte in front of the first line
abbrev pub onto_first : ℕ → List Line → List Line
onto_first b [] = record { bytes = b ∷ []; ended = false } ∷ []
onto_first b (line ∷ lines) = record line { bytes = b ∷ line.bytes } ∷ lines

-- the lines of an input; only the last one may lack its line feed, and then it is not empty
abbrev pub lines_of : List ℕ → List Line
lines_of [] = []
lines_of (b ∷ bytes) = let rest = lines_of bytes in
    if b == 10 then record { bytes = []; ended = true } ∷ rest else onto_first b rest

-- the lines that have their line feed
abbrev pub ended_lines : List Line → List Line
ended_lines lines = filter (λ line. line.ended) lines

-- the bytes without a carriage return at their end
abbrev pub without_return : List ℕ → List ℕ
without_return bytes = if slice_index bytes (length bytes - 1) == 13 then take (length bytes - 1) bytes else bytes

-- the text of a line: a carriage return is dropped right before the line feed
abbrev pub text_of : Line → List ℕ
text_of line = if line.ended then without_return line.bytes else line.bytes

-- nothing, or bytes that end with a line feed
abbrev pub IsWhole : List ℕ → Type 0
IsWhole bytes = (bytes ≡ []) ⊎ ((prefix : List ℕ) × (bytes ≡ prefix ++ 10 ∷ []))

-- no line feed
abbrev pub HasNoFeed : List ℕ → Type 0
HasNoFeed bytes = list_any (λ b. b == 10) bytes ≡ false
