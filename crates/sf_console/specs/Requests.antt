-- What the lines of the input ask: each by itself, or several as a group. A group is read as one text: its lines, with carriage
-- returns between them.
use Rattle.std.specs.Prelude.{ℕ, zero, suc, ◌+◌, ◌-◌, Bool, false, not, ◌&&◌, List, [], ◌∷◌, ◌++◌, map, replicate, Option, None, Some, if◌then◌else◌}
use Rattle.std.specs.List.{list_all, list_any}
use Rattle.std.specs.Str.{is_utf8}
use Rattle.sf_text_lines.specs.Lines.{Line, line_max, lines_of, ended_lines}
use Rattle.sf_wkt.specs.Tokens.{is_blank}
use Rattle.sf_commands.specs.declared.head.Head.{Head}
use Rattle.sf_commands.specs.GroupTexts.{head_of, is_return, members_of}
use Rattle.sf_console.specs.Readings.{Reading, Blank, Cut, line_text, reading_of, text_reading}

-- what comes from an input: a line, as its text, or none where it is too long; or the end
pub data Event : Type 0 where
  Comes : Option (List ℕ) → Event
  Ends : Event

-- no group is open; or one is: the text of its lines so far, and how many members are still to come
pub data Gathering : Type 0 where
  Closed : Gathering
  Open : List ℕ → ℕ → Gathering

-- what is asked: a text, and what it is
pub record Request : Type 0 where
  pub text : List ℕ
  pub reading : Reading

-- nothing is asked
abbrev pub nothing_asked : Request
nothing_asked = record { text = []; reading = Blank }

-- ---- a line outside of groups

-- the text that is asked of a line; nothing where it is too long
abbrev pub text_asked : Option (List ℕ) → List ℕ
text_asked None = []
text_asked (Some text) = text

-- what a line asks by itself
abbrev pub line_request : Option (List ℕ) → Request
line_request text = record { text = text_asked text; reading = reading_of text }

-- the head of a group that a line is
abbrev pub line_head : Option (List ℕ) → Option Head
line_head None = None
line_head (Some text) = if is_utf8 text then head_of text else None

-- a head opens a group; any other line is asked by itself
abbrev pub outside : Option (List ℕ) → Option Head → Gathering × Request
outside text None = (Closed, line_request text)
outside text (Some head) = (Open (text_asked text) head.members, nothing_asked)

-- ---- a line inside of a group

-- whether a line of a group is passed over, since it has blanks alone
abbrev pub is_passed_over : Option (List ℕ) → Bool
is_passed_over None = false
is_passed_over (Some text) = is_utf8 text && list_all is_blank text

-- whether a text may be a member's: it is UTF-8, and has no carriage return
abbrev pub is_member_text : List ℕ → Bool
is_member_text text = is_utf8 text && not (list_any is_return text)

-- a line as the text of a member: of a line that is too long, blanks that are too many too; of one that may be no member's, nothing
abbrev pub member_text : Option (List ℕ) → List ℕ
member_text None = replicate (line_max + 1) 32
member_text (Some text) = if is_member_text text then text else []

-- the text of a group with a further member
abbrev pub with_member : List ℕ → Option (List ℕ) → List ℕ
with_member text line = text ++ 13 ∷ member_text line

-- so many members are still to come: where none is, the group is asked
abbrev pub gathered_on : List ℕ → ℕ → Gathering × Request
gathered_on text zero = (Closed, record { text = text; reading = text_reading text })
gathered_on text (suc left) = (Open text (suc left), nothing_asked)

abbrev pub inside : List ℕ → ℕ → Option (List ℕ) → Gathering × Request
inside text left line = if is_passed_over line then (Open text left, nothing_asked) else gathered_on (with_member text line) (left - 1)

-- ---- the input

-- what an event leaves of a group, and what it asks; the end of the input cuts a group off
abbrev pub gathered : Gathering → Event → Gathering × Request
gathered Closed (Comes line) = outside line (line_head line)
gathered Closed Ends = (Closed, nothing_asked)
gathered (Open text left) (Comes line) = inside text left line
gathered (Open text left) Ends = (Closed, record { text = []; reading = Cut (members_of text) })

-- what events ask, one after another, and the group that they leave
abbrev pub requests_from : Gathering → List Event → List Request
requests_from gathering [] = []
requests_from gathering (event ∷ events) = let here = gathered gathering event in here.1 ∷ requests_from here.0 events

abbrev pub left_by : Gathering → List Event → Gathering
left_by gathering [] = gathering
left_by gathering (event ∷ events) = left_by (gathered gathering event).0 events

-- lines come
abbrev pub come : List Line → List Event
come lines = map (λ line. Comes (line_text line)) lines

-- what the lines of bytes ask behind a group that was begun, and the group that they leave
abbrev pub requests_in : Gathering → List ℕ → List Request
requests_in gathering bytes = requests_from gathering (come (lines_of bytes))

abbrev pub left_in : Gathering → List ℕ → Gathering
left_in gathering bytes = left_by gathering (come (lines_of bytes))

-- the lines of an input, and behind them its end; and those that have their line feed
abbrev pub events_of : List ℕ → List Event
events_of input = come (lines_of input) ++ Ends ∷ []

abbrev pub whole_lines_come : List ℕ → List Event
whole_lines_come input = come (ended_lines (lines_of input))

-- what they ask
abbrev pub requests_of : List ℕ → List Request
requests_of input = requests_from Closed (events_of input)

abbrev pub whole_requests_of : List ℕ → List Request
whole_requests_of input = requests_from Closed (whole_lines_come input)

-- what these requests are
abbrev pub readings : List Request → List Reading
readings requests = map (λ request. request.reading) requests

abbrev pub readings_of : List ℕ → List Reading
readings_of input = readings (requests_of input)

abbrev pub whole_readings_of : List ℕ → List Reading
whole_readings_of input = readings (whole_requests_of input)
