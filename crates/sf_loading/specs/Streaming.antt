-- Internal: who wants to trust the program need not read this file.
-- What happens to a stream while the fields of a file are read from it.
use Rattle.std.specs.Prelude.{◌≡◌, ℕ, false, List, ◌++◌, Option, Some, None, IsTrue, Result, Ok, Err}
use Rattle.std.specs.Io.KnownBytes.{Consumes}
use Rattle.std.specs.Str.{is_utf8}
use Rattle.sf_streams.specs.Streams.{Left, AreLeft, Loses, Goes}
use Rattle.sf_format.specs.declared.defect.Defect.{Defect}
use Rattle.sf_format.specs.Readings.{Fault, Reading, done, bytes}
use Rattle.sf_loading.specs.declared.halt.Halt.{Halt}
use Rattle.sf_loading.specs.declared.halt.Halt.TheVariants as halts

-- a reading took a text from the front and gives the value
abbrev pub Takes : {T : Type 0} → Reading T → T → Option (List ℕ) → Option (List ℕ) → Left → Left → Type 0
Takes read value unread_before unread old new = Goes read (done value) unread_before unread old new

-- a reading ends in a fault, with all that is left of the stream
pub record Finds {T : Type 0} (read : Reading T) (fault : Fault) (unread_before unread : Option (List ℕ)) (old : Left) : Type 0 where
  pub got : List ℕ
  pub rest : List ℕ
  pub consumed : Consumes unread_before unread got
  pub is_left : AreLeft unread rest
  pub faulty : read (record { place = old.place; bytes = (old.bytes ++ got) ++ rest }) ≡ Err fault

-- reading ended so: at a field that the reading refuses; or the reader failed, or memory ran out
abbrev pub Ends : {T : Type 0} → Reading T → Option (List ℕ) → Option (List ℕ) → Left → Halt → Type 0
Ends read unread_before unread old (halts.Found place defect) = Finds read (record { place = place; defect = defect }) unread_before unread old
Ends read unread_before unread old halt = Loses unread_before unread

-- reading went on to where the result says that it stands, or it ended before
abbrev pub Reaches : {X T : Type 0} → Reading T → (X → Reading T) → Option (List ℕ) → Option (List ℕ) → Left → Left → Result X Halt → Type 0
Reaches before after unread_before unread old new (Ok x) = Goes before (after x) unread_before unread old new
Reaches before after unread_before unread old new (Err halt) = Ends before unread_before unread old halt

-- what a function returned is what a reading gives of the stream, or it ended before
abbrev pub Gives : {X T : Type 0} → (X → T) → Reading T → Option (List ℕ) → Option (List ℕ) → Left → Left → Result X Halt → Type 0
Gives view read unread_before unread old new result = Reaches read (λ x. done (view x)) unread_before unread old new result

-- what a function returned is what a rule makes of the field at a place; or memory ran out
abbrev pub Judges : {X T : Type 0} → (X → T) → ℕ → Result T Defect → Result X Halt → Type 0
Judges view place verdict (Ok x) = verdict ≡ Ok (view x)
Judges view place verdict (Err (halts.Found there defect)) = (there ≡ place) × (verdict ≡ Err defect)
Judges view place verdict (Err halt) = Unit {0}

-- the text of these bytes, or none where they aren't UTF-8
abbrev pub IsTextOf : List ℕ → Option (List ℕ) → Type 0
IsTextOf found (Some text) = (text ≡ found) × IsTrue (is_utf8 found)
IsTextOf found None = is_utf8 found ≡ false

-- what a function returned is the text of the next bytes, or it ended before
abbrev pub GivesText : ℕ → Option (List ℕ) → Option (List ℕ) → Left → Left → Result (Option (List ℕ)) Halt → Type 0
GivesText size unread_before unread old new (Ok text) = (found : List ℕ) × Takes (bytes size) found unread_before unread old new × IsTextOf found text
GivesText size unread_before unread old new (Err halt) = Ends (bytes size) unread_before unread old halt
