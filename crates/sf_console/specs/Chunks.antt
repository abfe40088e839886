-- Internal: who wants to trust the program need not read this file.
-- What a chunk of the input does after the bytes in the line buffer.
use Rattle.std.specs.Prelude.{◌≡◌, ◌≢◌, ℕ, true, List, [], ◌∷◌, ◌++◌, Option}
use Rattle.std.specs.Io.KnownBytes.{Appends}
use Rattle.sf_text_lines.specs.Lines.{IsWhole, HasNoFeed}
use Rattle.sf_text_lines.specs.Buffers.{Buffered, IsBufferOf}
use Rattle.sf_history.specs.History.{Machine}
use Rattle.sf_console.specs.declared.group_lines.GroupLines.{GroupLines}
use Rattle.sf_console.specs.Readings.{Reading, line_text}
use Rattle.sf_console.specs.Requests.{Comes, Gathering, gathered, left_in, readings, requests_from, requests_in}
use Rattle.sf_console.specs.Gatherings.{IsHeld, events_at_end}
use Rattle.sf_console.specs.Session.{IsAnswered, Run}

-- what the lines of bytes are behind a group that was begun
abbrev pub readings_in : Gathering → List ℕ → List Reading
readings_in gathering bytes = readings (requests_in gathering bytes)

-- of the bytes in the line buffer and a chunk, but for the rest of it, the whole lines were answered, and
-- what came after them is in the buffer
pub record Takes (before chunk rest : List ℕ) (buffered : Buffered) (gathering : Gathering) (held : GroupLines) (written_before written : Option (List ℕ)) (old new : Machine) : Type 0 where
  pub finished : List ℕ
  pub after : List ℕ
  pub output : List ℕ
  pub parts : before ++ chunk ≡ (finished ++ after) ++ rest
  pub whole : IsWhole finished
  pub unfed : HasNoFeed after
  pub is_buffer : IsBufferOf after buffered
  pub is_held : IsHeld (left_in gathering finished) held
  pub appended : Appends written_before written output
  pub ran : Run old (readings_in gathering finished) output new

-- of the bytes in the line buffer and a chunk some whole lines were answered, and the writer broke off within
-- the answer to the next one
pub record Breaks (before chunk : List ℕ) (gathering : Gathering) (written_before written : Option (List ℕ)) (old new : Machine) : Type 0 where
  pub finished : List ℕ
  pub line : List ℕ
  pub rest : List ℕ
  pub parts : before ++ chunk ≡ finished ++ ((line ++ 10 ∷ []) ++ rest)
  pub whole : IsWhole finished
  pub unfed : HasNoFeed line
  pub output : List ℕ
  pub sent : List ℕ
  pub unsent : List ℕ
  pub mid : Machine
  pub ran : Run old (readings_in gathering finished) output mid
  pub answered : IsAnswered mid (gathered (left_in gathering finished) (Comes (line_text (record { bytes = line; ended = true })))).1.reading (sent ++ unsent) new
  pub something : sent ++ unsent ≢ []
  pub appended : Appends written_before written (output ++ sent)

-- the last line and the end of the input were answered
pub record EndsInput (before : List ℕ) (gathering : Gathering) (written_before written : Option (List ℕ)) (old new : Machine) : Type 0 where
  pub output : List ℕ
  pub appended : Appends written_before written output
  pub ran : Run old (readings (requests_from gathering (events_at_end before))) output new

-- the last line was carried out, and the writer broke off within its answer, or within that of the end
pub record BreaksAtEnd (before : List ℕ) (gathering : Gathering) (written_before written : Option (List ℕ)) (old new : Machine) : Type 0 where
  pub sent : List ℕ
  pub unsent : List ℕ
  pub earlier : List Reading
  pub last : Reading
  pub later : List Reading
  pub are : readings (requests_from gathering (events_at_end before)) ≡ earlier ++ last ∷ later
  pub ran : Run old earlier [] old
  pub answered : IsAnswered old last (sent ++ unsent) new
  pub something : sent ++ unsent ≢ []
  pub appended : Appends written_before written sent
