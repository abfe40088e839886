-- Internal: who wants to trust the program need not read this file.
-- How far a session is that is kept in a journal.
use Rattle.std.specs.Prelude.{◌≡◌, ℕ, ◌≤◌, true, false, List, [], ◌∷◌, ◌++◌, length, Option, None, Some}
use Rattle.std.specs.Io.KnownBytes.{Consumes}
use Rattle.sf_text_lines.specs.Lines.{line_max, text_of, IsWhole, HasNoFeed}
use Rattle.sf_text_lines.specs.Buffers.{IsBufferOf, nothing_buffered}
use Rattle.sf_journal.specs.Records.{records, sum_behind}
use Rattle.sf_console.specs.History.{Machine}
use Rattle.sf_keeping.specs.declared.desk.KeepFault.{KeepFault}
use Rattle.sf_keeping.specs.declared.desk.KeepFault.TheVariants.{Memory, Read}
use Rattle.sf_keeping.specs.Desks.{Call, LastFails, Makes, nothing_yet, after_calls}
use Rattle.sf_keeping.specs.Waiting.{Waiting, nothing_waits}
use Rattle.sf_keeping.specs.declared.keeping.Stop.{Stop}
use Rattle.sf_keeping.specs.declared.keeping.Stop.TheVariants.{Save, End}
use Rattle.sf_console.specs.declared.group_lines.GroupLines.{GroupLines}
use Rattle.sf_console.specs.Readings.{line_text, text_reading}
use Rattle.sf_console.specs.Requests.{Closed, Comes, Gathering, Request, gathered, left_in, requests_from, requests_in}
use Rattle.sf_console.specs.Gatherings.{IsHeld, events_at_end}
use Rattle.sf_keeping.specs.Kept.{IsKept, Keeps}
use Rattle.sf_keeping.specs.Inputs.{Ahead}
use Rattle.sf_keeping.specs.Saves.{is_save, AskForNone}
use Rattle.sf_keeping.specs.Moments.{AtEachMoment}

-- What is asked was carried out. Of the first of it, all is in the journal and put out; of what came since, all waits.
pub record IsUnderway (start now : Option (List Call)) (sum : ℕ) (old : Machine) (asked : List Request) (waiting : Waiting) (new : Machine) : Type 0 where
  pub calls : List Call
  pub makes : Makes start now calls
  pub moments : AtEachMoment sum old asked new calls
  pub done : List Request
  pub since : List Request
  pub parts : asked ≡ done ++ since
  pub output : List ℕ
  pub texts : List (List ℕ)
  pub mid : Machine
  pub did : Keeps old done output texts mid
  pub answers : List ℕ
  pub later : List (List ℕ)
  pub does : Keeps mid since answers later new
  pub standing : after_calls nothing_yet calls ≡ record { kept = records sum texts; waiting = []; answered = output; broken = false }
  pub waits : waiting ≡ record { sum = sum_behind (sum_behind sum texts) later; records = records (sum_behind sum texts) later; answers = answers }

-- by this fault the last call failed, or for want of memory none did; no read is among the calls
abbrev pub BrokeBy : KeepFault → List Call → Type 0
BrokeBy Read calls = ⊥
BrokeBy Memory calls = (after_calls nothing_yet calls).broken ≡ false
BrokeBy fault calls = LastFails fault calls

-- it was carried out, and then the journal or the output broke off
pub record BrokeOff (fault : KeepFault) (start now : Option (List Call)) (sum : ℕ) (old : Machine) (asked : List Request) (new : Machine) : Type 0 where
  pub calls : List Call
  pub makes : Makes start now calls
  pub moments : AtEachMoment sum old asked new calls
  pub told : BrokeBy fault calls

-- a session goes on: what is asked is the same, and other calls were made
abbrev pub Stays : Option (List Call) → Option (List Call) → Waiting → Waiting → Type 0
Stays before now was waits =
    (start : Option (List Call)) (sum : ℕ) (first : Machine) (asked : List Request) (machine : Machine)
    → IsUnderway start before sum first asked was machine → IsUnderway start now sum first asked waits machine

-- it broke off with nothing more asked
abbrev pub Breaks : KeepFault → Option (List Call) → Option (List Call) → Waiting → Type 0
Breaks fault before now was =
    (start : Option (List Call)) (sum : ℕ) (first : Machine) (asked : List Request) (machine : Machine)
    → IsUnderway start before sum first asked was machine → BrokeOff fault start now sum first asked machine

-- a session goes on by more that is asked
abbrev pub GoesOnBy : Option (List Call) → Option (List Call) → Waiting → Machine → List Request → Waiting → Machine → Type 0
GoesOnBy before now was old more waits new =
    (start : Option (List Call)) (sum : ℕ) (first : Machine) (asked : List Request)
    → IsUnderway start before sum first asked was old → IsUnderway start now sum first (asked ++ more) waits new

-- it broke off behind some of this
abbrev pub BreaksWithin : KeepFault → Option (List Call) → Option (List Call) → Waiting → Machine → List Request → Machine → Type 0
BreaksWithin fault before now was old more new =
    (start : Option (List Call)) (sum : ℕ) (first : Machine) (asked : List Request)
    → IsUnderway start before sum first asked was old
    → (done : List Request) × (left : List Request) × (more ≡ done ++ left) × BrokeOff fault start now sum first (asked ++ done) new

-- an answer that changed nothing is given to what is asked
abbrev pub IsTold : Machine → Request → List ℕ → Type 0
IsTold machine request answer = IsKept machine request answer [] machine

-- what is asked is this text
pub record IsRequestOf (request : Request) (text : List ℕ) : Type 0 where
  pub is_read : request.reading ≡ text_reading text
  pub is_text : request.text ≡ text
  pub unfed : HasNoFeed text

-- the text of a line, where it has one, is no longer than a line and has no line feed
abbrev pub IsLineText : Option (List ℕ) → Type 0
IsLineText None = Unit {0}
IsLineText (Some text) = (length text ≤ line_max) × HasNoFeed text

-- what a line that had its line feed leaves of a group, and what it asks
abbrev pub gathered_by : Gathering → List ℕ → Gathering × Request
gathered_by gathering bytes = gathered gathering (Comes (line_text (record { bytes = bytes; ended = true })))

-- what the last bytes, which have no line feed, leave of a group, and what they ask, where there are any
abbrev pub last_left : Gathering → List ℕ → Gathering
last_left gathering [] = gathering
last_left gathering (b ∷ bytes) = (gathered gathering (Comes (line_text (record { bytes = b ∷ bytes; ended = false })))).0

abbrev pub last_asked : Gathering → List ℕ → List Request
last_asked gathering [] = []
last_asked gathering (b ∷ bytes) = (gathered gathering (Comes (line_text (record { bytes = b ∷ bytes; ended = false })))).1 ∷ []

-- Of the bytes before and of what was read behind them, whole lines were carried out, none of which asks for a save; what was
-- not gone past is left.
pub record TakesLines (before rest : List ℕ) (gathering : Gathering) (held : GroupLines) (now_calls then_calls : Option (List Call)) (was : Waiting) (old : Machine) (ahead : Ahead) (waits : Waiting) (new : Machine) : Type 0 where
  pub finished : List ℕ
  pub after : List ℕ
  pub parts : before ++ rest ≡ (finished ++ after) ++ ahead.rest
  pub whole : IsWhole finished
  pub unfed : HasNoFeed after
  pub is_buffer : IsBufferOf after ahead.begun
  pub is_held : IsHeld (left_in gathering finished) held
  pub ask_for_none : AskForNone (requests_in gathering finished)
  pub goes_on : GoesOnBy now_calls then_calls was old (requests_in gathering finished) waits new

-- the same, up to a line that asks for a save
pub record TakesSave (before rest : List ℕ) (gathering : Gathering) (now_calls then_calls : Option (List Call)) (was : Waiting) (old : Machine) (ahead : Ahead) (waits : Waiting) (new : Machine) : Type 0 where
  pub finished : List ℕ
  pub line : List ℕ
  pub parts : before ++ rest ≡ (finished ++ (line ++ 10 ∷ [])) ++ ahead.rest
  pub whole : IsWhole finished
  pub unfed : HasNoFeed line
  pub is_save : is_save (text_of (record { bytes = line; ended = true })) ≡ true
  pub is_closed : left_in gathering finished ≡ Closed
  pub begun : ahead.begun ≡ nothing_buffered
  pub ask_for_none : AskForNone (requests_in gathering finished)
  pub goes_on : GoesOnBy now_calls then_calls was old (requests_in gathering finished) waits new

-- the journal or the output broke off behind some of what is asked at the front of the bytes
pub record BrokeOffIn (fault : KeepFault) (bytes : List ℕ) (gathering : Gathering) (start now : Option (List Call)) (sum : ℕ) (first : Machine) (asked : List Request) (new : Machine) : Type 0 where
  pub done : List Request
  pub parts : (more : List ℕ) → (others : List Request) × (requests_in gathering (bytes ++ more) ≡ done ++ others)
  pub ask_for_none : AskForNone done
  pub broke : BrokeOff fault start now sum first (asked ++ done) new

-- so it did within what was read
abbrev pub BreaksLines : KeepFault → List ℕ → List ℕ → Gathering → Option (List Call) → Option (List Call) → Waiting → Machine → Machine → Type 0
BreaksLines fault before rest gathering now_calls then_calls was old new =
    (start : Option (List Call)) (sum : ℕ) (first : Machine) (asked : List Request)
    → IsUnderway start now_calls sum first asked was old → BrokeOffIn fault (before ++ rest) gathering start then_calls sum first asked new

-- So much was read; its whole lines were carried out, none of which asks for a save.
pub record KeepsOn (unread left : Option (List ℕ)) (ahead : List ℕ) (held : GroupLines) (start now : Option (List Call)) (sum : ℕ) (old : Machine) (input : Ahead) (waits : Waiting) (new : Machine) : Type 0 where
  pub taken : List ℕ
  pub consumed : Consumes unread left taken
  pub finished : List ℕ
  pub after : List ℕ
  pub parts : ahead ++ taken ≡ (finished ++ after) ++ input.rest
  pub whole : IsWhole finished
  pub unfed : HasNoFeed after
  pub is_buffer : IsBufferOf after input.begun
  pub is_held : IsHeld (left_in Closed finished) held
  pub ask_for_none : AskForNone (requests_in Closed finished)
  pub underway : IsUnderway start now sum old (requests_in Closed finished) waits new

-- what the last bytes, which have no line feed, ask behind a group that was begun, and the end of the input
abbrev pub asked_at_end : Gathering → List ℕ → List Request
asked_at_end gathering bytes = requests_from gathering (events_at_end bytes)

-- The last bytes were carried out as a line, and then the end of the input, or they ask for a save; nothing waits.
abbrev pub Finishes : Stop → List ℕ → Gathering → Option (List Call) → Option (List Call) → Waiting → Machine → Waiting → Machine → Type 0
Finishes Save bytes gathering before now was old waits new =
    (is_save bytes ≡ true) × (gathering ≡ Closed) × (waits ≡ nothing_waits waits.sum) × GoesOnBy before now was old [] waits new
Finishes End bytes gathering before now was old waits new =
    AskForNone (asked_at_end gathering bytes) × (waits ≡ nothing_waits waits.sum) × GoesOnBy before now was old (asked_at_end gathering bytes) waits new
