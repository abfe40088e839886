-- Internal: who wants to trust the program need not read this file.
-- What is kept of a group whose lines are still coming.
use Rattle.std.specs.Prelude.{◌≡◌, ℕ, ◌+◌, ◌<◌, Bool, not, true, false, List, [], ◌∷◌, ◌++◌, length, Option, None, Some, Result, string_bytes}
use Rattle.std.specs.List.{list_all}
use Rattle.std.specs.Str.{is_utf8}
use Rattle.sf_text_lines.specs.Lines.{HasNoFeed}
use Rattle.sf_wkt.specs.Tokens.{is_blank}
use Rattle.sf_groups.specs.declared.member.Member.{Member as GroupMember}
use Rattle.sf_history.specs.History.{Machine}
use Rattle.sf_commands.specs.declared.group_text.GroupRefusal.{GroupRefusal}
use Rattle.sf_commands.specs.declared.group_text.GroupRefusal.TheVariants.{Member, Memory}
use Rattle.sf_commands.specs.declared.head.Head.{Head}
use Rattle.sf_commands.specs.GroupTexts.{begins_as_head, head_of, parts_of}
use Rattle.sf_console.specs.declared.group_lines.GroupLines.{GroupLines}
use Rattle.sf_console.specs.declared.group_lines.GroupLines.TheVariants as lines
use Rattle.sf_console.specs.declared.group_lines.LineAsks.{LineAsks}
use Rattle.sf_console.specs.declared.group_lines.LineAsks.TheVariants as asks
use Rattle.sf_console.specs.Readings.{Grouped, Reading, line_text, text_reading}
use Rattle.sf_console.specs.Requests.{Comes, Ends, Event, Gathering, Closed, Open, Request, gathered, line_request, nothing_asked, readings, requests_from}
use Rattle.sf_console.specs.Session.{IsAnswered, Run}

-- a text has the head of a group and some of its members, and so many are still to come: at least one
pub record IsOpen (text : List ℕ) (left : ℕ) : Type 0 where
  pub head : Head
  pub first : List ℕ
  pub members : List (List ℕ)
  pub parts : parts_of text ≡ first ∷ members
  pub is_head : head_of first ≡ Some head
  pub count : length members + left ≡ head.members
  pub some : 0 < left
  pub is_text : is_utf8 text ≡ true
  pub unfed : HasNoFeed text

-- the same of a text behind a further member, where so many more are to come: it may be whole
pub record IsGrown (text : List ℕ) (left : ℕ) : Type 0 where
  pub head : Head
  pub first : List ℕ
  pub members : List (List ℕ)
  pub parts : parts_of text ≡ first ∷ members
  pub is_head : head_of first ≡ Some head
  pub count : length members + left ≡ head.members
  pub is_text : is_utf8 text ≡ true
  pub is_said : list_all is_blank text ≡ false
  pub unfed : HasNoFeed text

-- the text of a line has no line feed, where there is one
abbrev pub IsUnfed : Option (List ℕ) → Type 0
IsUnfed None = Unit {0}
IsUnfed (Some text) = HasNoFeed text

-- a line is neither a head nor a group, as its first byte tells: it has none, or is too long, or begins as neither does
abbrev pub stands_alone : Option (List ℕ) → Bool
stands_alone None = true
stands_alone (Some text) = not (begins_as_head text)

-- the last bytes of the input as a line, where there are any, and its end
abbrev pub events_at_end : List ℕ → List Event
events_at_end [] = Ends ∷ []
events_at_end (b ∷ bytes) = Comes (line_text (record { bytes = b ∷ bytes; ended = false })) ∷ Ends ∷ []

-- these lines are kept of a group, or were lost
abbrev pub IsHeld : Gathering → GroupLines → Type 0
IsHeld Closed lines.Closed = Unit {0}
IsHeld (Open text left) (lines.Open held to_come) = (string_bytes held ≡ text) × (to_come ≡ left) × IsOpen text left
IsHeld (Open text left) (lines.Lost to_come) = (to_come ≡ left) × IsOpen text left
IsHeld gathering held = ⊥

-- it is a group
abbrev pub IsGrouped : Reading → Type 0
IsGrouped reading = (editor : ℕ) × (group : Result (List GroupMember) GroupRefusal) × (reading ≡ Grouped editor group)

-- what a line of this text asks is this request
abbrev pub Asks : Option (List ℕ) → Request → LineAsks → Type 0
Asks line request asks.Nothing = request ≡ nothing_asked
Asks line request asks.Itself = request ≡ line_request line
Asks line request (asks.Group text) =
    (request ≡ record { text = string_bytes text; reading = text_reading (string_bytes text) }) × HasNoFeed (string_bytes text) × IsGrouped request.reading
Asks line request asks.Lost = IsGrouped request.reading

-- a line is taken: it is answered with the text, and these lines are kept of a group behind it
abbrev pub IsTaken : Machine → Gathering → Option (List ℕ) → List ℕ → Machine → GroupLines → Type 0
IsTaken old gathering line text new held =
    let here = gathered gathering (Comes line) in IsAnswered old here.1.reading text new × IsHeld here.0 held

-- of several readings one is answered with the text, and those before and behind it have no answer
pub record IsAnsweredOnce (old : Machine) (readings : List Reading) (text : List ℕ) (new : Machine) : Type 0 where
  pub earlier : List Reading
  pub last : Reading
  pub later : List Reading
  pub parts : readings ≡ earlier ++ last ∷ later
  pub before : Run old earlier [] old
  pub answered : IsAnswered old last text new
  pub after : Run new later [] new

-- the last bytes of the input, with no line feed, and its end are answered with the text
abbrev pub IsLastAnswered : Machine → Gathering → List ℕ → List ℕ → Machine → Type 0
IsLastAnswered old gathering bytes text new = IsAnsweredOnce old (readings (requests_from gathering (events_at_end bytes))) text new
