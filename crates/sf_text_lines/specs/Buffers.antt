-- Internal: who wants to trust the program need not read this file.
-- What a line buffer has of a line whose line feed has not been read yet.
use Rattle.std.specs.Prelude.{◌≡◌, ℕ, ◌+◌, ◌<◌, ◌≤◌, Bool, true, false, ◌||◌, List, [], ◌++◌, length, Option, None, Some, nat_lt, if◌then◌else◌}
use Rattle.sf_text_lines.specs.Lines.{line_max}

-- the bytes of a line, or that they are too many for a line
pub record Buffered : Type 0 where
  pub bytes : List ℕ
  pub overlong : Bool

-- no byte yet
abbrev pub nothing_buffered : Buffered
nothing_buffered = record { bytes = []; overlong = false }

-- what a buffer has once more bytes came
abbrev pub buffered_with : Buffered → List ℕ → Buffered
buffered_with buffered more =
    if buffered.overlong || nat_lt line_max (length buffered.bytes + length more)
    then record { bytes = []; overlong = true }
    else record { bytes = buffered.bytes ++ more; overlong = false }

-- the bytes of the line, where they are not too many
abbrev pub line_buffered : Buffered → Option (List ℕ)
line_buffered buffered = if buffered.overlong then None else Some buffered.bytes

-- a buffer has this of these bytes
pub record IsBufferOf (bytes : List ℕ) (buffered : Buffered) : Type 0 where
  pub whole : buffered.overlong ≡ false → buffered.bytes ≡ bytes
  pub short : buffered.overlong ≡ false → length bytes ≤ line_max
  pub long : buffered.overlong ≡ true → line_max < length bytes
