-- From line to line of a group.
use Rattle.std.proofs.Common.{◌≡◌, ℕ, zero, suc, ◌+◌, ◌-◌, ◌<◌, ◌==◌, ◌&&◌, ◌||◌, Bool, true, false, not, cond, nat_eq, nat_lt, List, [], ◌∷◌, ◌++◌, length, replicate, take, drop, slice_index, Option, None, Some, Result, String, Global, if◌then◌else◌, string_bytes, append_assoc, refl, sym, ap, ◌∙◌, subst, arith}
use Rattle.std.specs.List.{list_all, list_any}
use Rattle.std.specs.Str.{chars, is_utf8, IsUtf8}
use lib.Utf8.{encode}
use Rattle.std.proofs.lemmas.Str.{IsUtf8-append, IsUtf8-from_is_utf8, IsUtf8-nil, is_utf8-from_IsUtf8}
use Rattle.std.proofs.lemmas.Grind.{common_steps}
use Rattle.std.proofs.lemmas.List.{length-append, take-append-drop}
use Rattle.sf_refusals.specs.declared.refusal.Refusal.TheVariants.{BadCommand}
use Rattle.sf_text_lines.specs.Lines.{HasNoFeed, Line, line_max, text_of, without_return}
use Rattle.sf_text_lines.specs.Buffers.{Buffered, IsBufferOf, line_buffered, nothing_buffered}
use Rattle.sf_text_lines.proofs.LineLemmas.{HasNoFeed-append}
use Rattle.sf_text_lines.proofs.BufferLemmas.{line_buffered-None, line_buffered-Some, nothing_buffered-of}
use Rattle.sf_history.specs.History.{Machine}
use Rattle.sf_wkt.specs.Tokens.{is_blank}
use Rattle.sf_groups.specs.declared.member.Member.{Member}
use Rattle.sf_commands.specs.declared.group_text.GroupRefusal.{GroupRefusal}
use Rattle.sf_commands.specs.declared.head.Head.{Head}
use Rattle.sf_commands.specs.GroupTexts.{group_by_head, group_by_parts, group_of, head_of, is_return, members_of, parts_of}
use Rattle.sf_commands.proofs.PartLemmas.{head_alone, head_has_members, last_part}
use Rattle.sf_console.specs.declared.group_lines.GroupLines.{GroupLines}
use Rattle.sf_console.specs.declared.group_lines.GroupLines.TheVariants as lines
use Rattle.sf_console.specs.declared.group_lines.LineAsks.{LineAsks}
use Rattle.sf_console.specs.declared.group_lines.LineAsks.TheVariants as asks
use Rattle.sf_console.specs.Readings.{Blank, Grouped, Reading, Unreadable, by_group, line_text, reading_of, text_reading}
use Rattle.sf_console.specs.Requests.{Closed, Comes, Ends, Gathering, Open, Request, gathered, gathered_on, is_member_text, is_passed_over, line_head, line_request, member_text, nothing_asked, outside, readings, requests_from, with_member}
use Rattle.sf_console.specs.Gatherings.{Asks, IsAnsweredOnce, IsGrouped, IsGrown, IsHeld, IsLastAnswered, IsOpen, IsTaken, IsUnfed}
use Rattle.sf_console.specs.Session.{IsAnswered}
use Rattle.sf_console.proofs.ReadingLemmas.{line_text-long, line_text-short, not_utf8, open-asks_nothing, text_reading-by}

-- ---- the texts of members

-- blanks alone have no return, no feed, and are text
blanks_no_return : (n : ℕ) → list_any is_return (replicate n 32) ≡ false
blanks_no_return zero = refl
blanks_no_return (suc n) = blanks_no_return n

blanks_unfed : (n : ℕ) → HasNoFeed (replicate n 32)
blanks_unfed zero = refl
blanks_unfed (suc n) = blanks_unfed n

one_blank : IsUtf8 (32 ∷ [])
unfolding is_utf8 chars encode
one_blank = IsUtf8-from_is_utf8 (32 ∷ []) refl

blanks_text : (n : ℕ) → IsUtf8 (replicate n 32)
blanks_text zero = IsUtf8-nil
blanks_text (suc n) = IsUtf8-append (32 ∷ []) (replicate n 32) one_blank (blanks_text n)

-- a member's text is text
and_left : (a b : Bool) → (a && b) ≡ true → a ≡ true
and_left true b h = refl
and_left false b h = cc

and_right : (a b : Bool) → (a && b) ≡ true → b ≡ true
and_right true b h = h
and_right false b h = cc

not_true : (b : Bool) → not b ≡ true → b ≡ false
not_true true h = cc
not_true false h = refl

-- what holds of no text and of each that may be a member's holds of the text of a member
of_member : (P : List ℕ → Type 0) (line : Option (List ℕ)) → P (replicate (line_max + 1) 32) → P []
    → ((text : List ℕ) → line ≡ Some text → is_member_text text ≡ true → P text) → P (member_text line)
of_member P None blanks none of_text = blanks
of_member P (Some text) blanks none of_text = by_test (is_member_text text) refl
  where
    by_test : (is : Bool) → is_member_text text ≡ is → P (if is then text else [])
    by_test true is = of_text text refl is
    by_test false is = none

member_no_return : (line : Option (List ℕ)) → list_any is_return (member_text line) ≡ false
member_no_return line = of_member (λ text. list_any is_return text ≡ false) line (blanks_no_return (line_max + 1)) refl
    (λ text same is. not_true (list_any is_return text) (and_right (is_utf8 text) (not (list_any is_return text)) is))

member_is_text : (line : Option (List ℕ)) → IsUtf8 (member_text line)
member_is_text line = of_member IsUtf8 line (blanks_text (line_max + 1)) IsUtf8-nil
    (λ text same is. IsUtf8-from_is_utf8 text (and_left (is_utf8 text) (not (list_any is_return text)) is))

member_unfed : (line : Option (List ℕ)) → IsUnfed line → HasNoFeed (member_text line)
member_unfed line unfed = of_member HasNoFeed line (blanks_unfed (line_max + 1)) refl (λ text same is. subst IsUnfed same unfed)

-- ---- texts of groups

-- a text with a return is not blank
said : (text more : List ℕ) → list_all is_blank (text ++ 13 ∷ more) ≡ false
said [] more = refl
said (b ∷ text) more = by_byte (said text more) (is_blank b)
  where
    by_byte : list_all is_blank (text ++ 13 ∷ more) ≡ false → (blank : Bool) → (blank && list_all is_blank (text ++ 13 ∷ more)) ≡ false
    by_byte later true = later
    by_byte later false = refl

one_return : IsUtf8 (13 ∷ [])
unfolding is_utf8 chars encode
one_return = IsUtf8-from_is_utf8 (13 ∷ []) refl

-- a head opens a group
pub IsOpen-head : (text : List ℕ) (head : Head) → head_of text ≡ Some head → is_utf8 text ≡ true → HasNoFeed text → IsOpen text head.members
IsOpen-head text head is is_text unfed = record {
  head = head;
  first = text;
  members = [];
  parts = head_alone text head is;
  is_head = is;
  count = omega arith;
  some = head_has_members text head is;
  is_text = is_text;
  unfed = unfed;
}

-- a further member
pub IsGrown-member : (text : List ℕ) (left : ℕ) (line : Option (List ℕ)) → IsOpen text left → IsUnfed line → IsGrown (with_member text line) (left - 1)
IsGrown-member text left line o unfed = record {
  head = o.head;
  first = o.first;
  members = o.members ++ member_text line ∷ [];
  parts = last_part text (member_text line) (member_no_return line) ∙ ap (λ parts. parts ++ member_text line ∷ []) o.parts;
  is_head = o.is_head;
  count =
      let one : length (o.members ++ member_text line ∷ []) ≡ length o.members + 1 = length-append o.members (member_text line ∷ []) in
      let some = o.some in
      let count = o.count in
      omega (arith, one, some, count);
  is_text = is_utf8-from_IsUtf8 (with_member text line)
      (IsUtf8-append text (13 ∷ member_text line) (IsUtf8-from_is_utf8 text o.is_text) (IsUtf8-append (13 ∷ []) (member_text line) one_return (member_is_text line)));
  is_said = said text (member_text line);
  unfed = HasNoFeed-append text (13 ∷ member_text line) o.unfed (member_unfed line unfed);
}

-- where more members come it is open still
pub IsOpen-grown : (text : List ℕ) (left : ℕ) → IsGrown text left → 0 < left → IsOpen text left
IsOpen-grown text left g some = record {
  head = g.head;
  first = g.first;
  members = g.members;
  parts = g.parts;
  is_head = g.is_head;
  count = g.count;
  some = some;
  is_text = g.is_text;
  unfed = g.unfed;
}

-- a whole group is read as one
whole_group : (text first : List ℕ) (members : List (List ℕ)) (head : Head) → parts_of text ≡ first ∷ members → head_of first ≡ Some head → length members ≡ head.members
    → group_of text ≡ Some (head.editor, members_of text)
whole_group text first members head parts is_head count =
    ap (λ p. group_by_parts p text) parts ∙ ap (λ h. group_by_head h text (length members)) is_head
    ∙ by_count (nat_eq head.members (length members)) (nat_eq-same head.members (length members) (sym count))
  where
    by_count : (same : Bool) → same ≡ true
        → cond {A = Option (ℕ × Result (List Member) GroupRefusal)} same (Some (head.editor, members_of text)) None ≡ Some (head.editor, members_of text)
    by_count true is = refl
    by_count false is = cc

    nat_eq-same : (a b : ℕ) → a ≡ b → nat_eq a b ≡ true
    nat_eq-same a b same = grind (arith, common_steps)

-- a text that is a group is UTF-8
pub grouped-is_text : (text : List ℕ) → IsGrouped (text_reading text) → is_utf8 text ≡ true
grouped-is_text text (editor, group, is) = by (is_utf8 text) is
  where
    by : (utf8 : Bool) → cond (not utf8) (Unreadable BadCommand) (cond (list_all is_blank text) Blank (by_group text (group_of text))) ≡ Grouped editor group → utf8 ≡ true
    by true same = refl
    by false same = cc

pub IsGrouped-grown : (text : List ℕ) → IsGrown text 0 → IsGrouped (text_reading text)
IsGrouped-grown text g = (
  g.head.editor,
  members_of text,
  text_reading-by text true false g.is_text g.is_said
      ∙ ap (by_group text) (whole_group text g.first g.members g.head g.parts g.is_head (let count = g.count in omega (arith, count))),
)

-- ---- what is kept

-- nothing is kept just where no group is open
pub IsHeld-closed : (gathering : Gathering) → IsHeld gathering lines.Closed → gathering ≡ Closed
IsHeld-closed Closed held = refl
IsHeld-closed (Open text left) held = absurd held

-- ---- the texts of lines

-- what begins bytes without a feed has none
unfed-front : (xs ys : List ℕ) → HasNoFeed (xs ++ ys) → HasNoFeed xs
unfed-front [] ys unfed = refl
unfed-front (x ∷ xs) ys unfed = at_byte (unfed-front xs ys) (x == 10) unfed
  where
    at_byte : (HasNoFeed (xs ++ ys) → HasNoFeed xs) → (b : Bool) → (b || list_any (λ c. c == 10) (xs ++ ys)) ≡ false → (b || list_any (λ c. c == 10) xs) ≡ false
    at_byte later true h = cc
    at_byte later false h = later h

-- the text of a line has no feed where the line has none
pub unfed-without_return : (bytes : List ℕ) → HasNoFeed bytes → HasNoFeed (without_return bytes)
unfed-without_return bytes unfed = by (slice_index bytes (length bytes - 1) == 13)
  where
    by : (b : Bool) → HasNoFeed (cond b (take (length bytes - 1) bytes) bytes)
    by true = unfed-front (take (length bytes - 1) bytes) (drop (length bytes - 1) bytes) (subst HasNoFeed (sym (take-append-drop (length bytes - 1) bytes)) unfed)
    by false = unfed

pub IsUnfed-line : (line : Line) → HasNoFeed line.bytes → IsUnfed (line_text line)
IsUnfed-line line unfed = by_length (nat_lt line_max (length line.bytes))
  where
    by_feed : (ended : Bool) → HasNoFeed (cond ended (without_return line.bytes) line.bytes)
    by_feed true = unfed-without_return line.bytes unfed
    by_feed false = unfed

    by_length : (long : Bool) → IsUnfed (if long then None else Some (text_of line))
    by_length true = tt
    by_length false = by_feed line.ended

-- the text that a buffer has of a line
pub line_text-ended : (bytes found : List ℕ) (buffered : Buffered) → IsBufferOf bytes buffered → Some found ≡ line_buffered buffered
    → line_text (record { bytes = bytes; ended = true }) ≡ Some (without_return found)
line_text-ended bytes found buffered is_buffer is =
    let line = line_buffered-Some buffered found is in
    let whole : found ≡ bytes = sym line.1 ∙ is_buffer.whole line.0 in
    line_text-short (record { bytes = bytes; ended = true }) (is_buffer.short line.0) ∙ ap (λ b. Some (without_return b)) (sym whole)

pub line_text-last : (bytes found : List ℕ) (buffered : Buffered) → IsBufferOf bytes buffered → Some found ≡ line_buffered buffered
    → line_text (record { bytes = bytes; ended = false }) ≡ Some found
line_text-last bytes found buffered is_buffer is =
    let line = line_buffered-Some buffered found is in
    let whole : found ≡ bytes = sym line.1 ∙ is_buffer.whole line.0 in
    line_text-short (record { bytes = bytes; ended = false }) (is_buffer.short line.0) ∙ ap Some (sym whole)

pub line_text-too_long : (bytes : List ℕ) (ended : Bool) (buffered : Buffered) → IsBufferOf bytes buffered → None ≡ line_buffered buffered
    → line_text (record { bytes = bytes; ended = ended }) ≡ None
line_text-too_long bytes ended buffered is_buffer is = line_text-long (record { bytes = bytes; ended = ended }) (is_buffer.long (line_buffered-None buffered is))

-- a buffer that has nothing, and one that has something
pub empty-bytes : (bytes : List ℕ) (buffered : Buffered) → IsBufferOf bytes buffered → buffered ≡ nothing_buffered → bytes ≡ []
empty-bytes bytes buffered is_buffer is = sym (is_buffer.whole (ap (λ b. b.overlong) is)) ∙ ap (λ b. b.bytes) is

pub some-bytes : (bytes : List ℕ) (buffered : Buffered) → IsBufferOf bytes buffered → (buffered ≡ nothing_buffered → ⊥) → bytes ≡ [] → ⊥
some-bytes bytes buffered is_buffer some none = by_length buffered.overlong refl
  where
    by_length : (long : Bool) → buffered.overlong ≡ long → ⊥
    by_length true is =
        let over = is_buffer.long is in
        let zero_bytes : length bytes ≡ 0 = ap length none in
        omega (arith, over, zero_bytes)
    by_length false is = some (nothing_buffered-of buffered is (is_buffer.whole is ∙ none))

-- the text of the last line is what the buffer has
pub last-text : (bytes : List ℕ) (buffered : Buffered) → IsBufferOf bytes buffered → line_buffered buffered ≡ line_text (record { bytes = bytes; ended = false })
last-text bytes buffered is_buffer = by_length buffered.overlong refl
  where
    by_length : (long : Bool) → buffered.overlong ≡ long → line_buffered buffered ≡ line_text (record { bytes = bytes; ended = false })
    by_length true is =
        let held : line_buffered buffered ≡ None = ap (λ b. cond b None (Some buffered.bytes)) is in
        held ∙ sym (line_text-too_long bytes false buffered is_buffer (sym held))
    by_length false is =
        let held : line_buffered buffered ≡ Some buffered.bytes = ap (λ b. cond b None (Some buffered.bytes)) is in
        held ∙ sym (line_text-last bytes buffered.bytes buffered is_buffer (sym held))

-- a line is taken as its text is
pub IsTaken-as : (old new : Machine) (gathering : Gathering) (line given : Option (List ℕ)) (text : List ℕ) (held : GroupLines) → given ≡ line
    → IsAnswered old (gathered gathering (Comes given)).1.reading text new → IsHeld (gathered gathering (Comes given)).0 held → IsTaken old gathering line text new held
IsTaken-as old new gathering line given text held same answered is_held = (
  subst (λ l. IsAnswered old (gathered gathering (Comes l)).1.reading text new) same answered,
  subst (λ l. IsHeld (gathered gathering (Comes l)).0 held) same is_held,
)

-- a line that is no head, where no group is open, asks by itself
pub gathered-alone : (gathering : Gathering) (line : Option (List ℕ)) → gathering ≡ Closed → line_head line ≡ None → gathered gathering (Comes line) ≡ (Closed, line_request line)
gathered-alone gathering line closed none =
    subst (λ g. gathered g (Comes line) ≡ (Closed, line_request line)) (sym closed) (ap (outside line) none)

-- it is taken, and answered by itself
pub IsTaken-alone : (old new : Machine) (gathering : Gathering) (line given : Option (List ℕ)) (text : List ℕ) (held : GroupLines) → given ≡ line
    → gathering ≡ Closed → line_head given ≡ None → IsHeld gathering held → IsAnswered old (reading_of given) text new → IsTaken old gathering line text new held
IsTaken-alone old new gathering line given text held same closed none is_held answered =
    let here = sym (gathered-alone gathering given closed none) in
    IsTaken-as old new gathering line given text held same
    (subst (λ h. IsAnswered old h.1.reading text new) here answered)
    (subst (λ h. IsHeld h.0 held) here (subst (λ g. IsHeld g held) closed is_held))

-- ---- the last line, and the end of the input

-- the end alone is answered
pub IsLastAnswered-end : (old new : Machine) (gathering : Gathering) (text : List ℕ) → IsAnswered old (gathered gathering Ends).1.reading text new
    → IsLastAnswered old gathering [] text new
IsLastAnswered-end old new gathering text answered = record {
  earlier = [];
  last = (gathered gathering Ends).1.reading;
  later = [];
  parts = refl;
  before = (refl, refl);
  answered = answered;
  after = (refl, refl);
}

-- what the last line asks, behind which no group is open, and then the end of the input
abbrev last_and_end : Gathering → Option (List ℕ) → List Reading
last_and_end gathering line = readings (requests_from gathering (Comes line ∷ Ends ∷ []))

closed_end : (gathering : Gathering) → gathering ≡ Closed → readings (requests_from gathering (Ends ∷ [])) ≡ Blank ∷ []
closed_end gathering closed = ap (λ g. readings (requests_from g (Ends ∷ []))) closed

once_line : (old new : Machine) (gathering : Gathering) (line : Option (List ℕ)) (text : List ℕ) → (gathered gathering (Comes line)).0 ≡ Closed
    → IsAnswered old (gathered gathering (Comes line)).1.reading text new → IsAnsweredOnce old (last_and_end gathering line) text new
once_line old new gathering line text closed answered = record {
  earlier = [];
  last = (gathered gathering (Comes line)).1.reading;
  later = Blank ∷ [];
  parts = ap (λ l. (gathered gathering (Comes line)).1.reading ∷ l) (closed_end (gathered gathering (Comes line)).0 closed);
  before = (refl, refl);
  answered = answered;
  after = (new, [], [], (refl, refl), (refl, refl), refl);
}

-- the last line asks nothing, since it leaves a group open, and the end is answered
once_end : (old new : Machine) (gathering : Gathering) (line : Option (List ℕ)) (text : List ℕ) → (gathered gathering (Comes line)).1 ≡ nothing_asked
    → IsAnswered old (gathered (gathered gathering (Comes line)).0 Ends).1.reading text new → IsAnsweredOnce old (last_and_end gathering line) text new
once_end old new gathering line text nothing answered = record {
  earlier = Blank ∷ [];
  last = (gathered (gathered gathering (Comes line)).0 Ends).1.reading;
  later = [];
  parts = ap (λ request. request.reading ∷ (gathered (gathered gathering (Comes line)).0 Ends).1.reading ∷ []) nothing;
  before = (old, [], [], (refl, refl), (refl, refl), refl);
  answered = answered;
  after = (refl, refl);
}

pub IsLastAnswered-line : (old new : Machine) (gathering : Gathering) (bytes text : List ℕ) (line : Option (List ℕ)) → (bytes ≡ [] → ⊥)
    → line ≡ line_text (record { bytes = bytes; ended = false }) → (gathered gathering (Comes line)).0 ≡ Closed
    → IsAnswered old (gathered gathering (Comes line)).1.reading text new → IsLastAnswered old gathering bytes text new
IsLastAnswered-line old new gathering [] text line some is closed answered = absurd (some refl)
IsLastAnswered-line old new gathering (b ∷ bytes) text line some is closed answered =
    subst (λ l. IsAnsweredOnce old (last_and_end gathering l) text new) is (once_line old new gathering line text closed answered)

-- a gathering is closed, or open
open_or_closed : (gathering : Gathering) → (gathering ≡ Closed → ⊥) → (text : List ℕ) × (left : ℕ) × (gathering ≡ Open text left)
open_or_closed Closed none = absurd (none refl)
open_or_closed (Open text left) none = (text, left, refl)

pub IsLastAnswered-open : (old new : Machine) (gathering : Gathering) (bytes text : List ℕ) (line : Option (List ℕ)) → (bytes ≡ [] → ⊥)
    → line ≡ line_text (record { bytes = bytes; ended = false }) → ((gathered gathering (Comes line)).0 ≡ Closed → ⊥)
    → IsAnswered old (gathered (gathered gathering (Comes line)).0 Ends).1.reading text new → IsLastAnswered old gathering bytes text new
IsLastAnswered-open old new gathering [] text line some is opens answered = absurd (some refl)
IsLastAnswered-open old new gathering (b ∷ bytes) text line some is opens answered =
    let is_open = open_or_closed (gathered gathering (Comes line)).0 opens in
    subst (λ l. IsAnsweredOnce old (last_and_end gathering l) text new) is
    (once_end old new gathering line text (open-asks_nothing gathering (Comes line) is_open.0 is_open.1 is_open.2) answered)

-- what is kept, by cases
pub from-closed : (P : Gathering → Type 0) → P Closed → (gathering : Gathering) → IsHeld gathering lines.Closed → P gathering
from-closed P f gathering held = subst P (sym (IsHeld-closed gathering held)) f

pub from-open : (P : Gathering → Type 0) (text : String Global) (to_come : ℕ) → (IsOpen (string_bytes text) to_come → P (Open (string_bytes text) to_come))
    → (gathering : Gathering) → IsHeld gathering (lines.Open text to_come) → P gathering
from-open P text to_come f Closed held = absurd held
from-open P text to_come f (Open had left) (is, same, opens) =
    subst (λ l. P (Open had l)) same (subst (λ t. P (Open t to_come)) is (f (subst (λ t. IsOpen t to_come) (sym is) (subst (IsOpen had) (sym same) opens))))

pub from-lost : (P : Gathering → Type 0) (to_come : ℕ) → ((text : List ℕ) → IsOpen text to_come → P (Open text to_come))
    → (gathering : Gathering) → IsHeld gathering (lines.Lost to_come) → P gathering
from-lost P to_come f Closed held = absurd held
from-lost P to_come f (Open text left) (same, opens) = subst (λ l. P (Open text l)) same (f text (subst (IsOpen text) (sym same) opens))

-- ---- what functions of the lines of a group give

-- what bytes are that are text, or are none
pub line_head-text : (bytes text : List ℕ) (head : Option Head) → text ≡ bytes → IsUtf8 bytes → head ≡ head_of text → line_head (Some bytes) ≡ head
line_head-text bytes text head same is_text is =
    ap (λ b. cond b (head_of bytes) None) (is_utf8-from_IsUtf8 bytes is_text) ∙ ap head_of (sym same) ∙ sym is

pub line_head-bytes : (bytes : List ℕ) → (IsUtf8 bytes → ⊥) → line_head (Some bytes) ≡ None
line_head-bytes bytes none = ap (λ b. cond b (head_of bytes) None) (not_utf8 bytes none)

-- bytes that are no head are none as a line
pub line_head-none : (bytes : List ℕ) → head_of bytes ≡ None → line_head (Some bytes) ≡ None
line_head-none bytes none = by (is_utf8 bytes)
  where
    by : (utf8 : Bool) → cond utf8 (head_of bytes) None ≡ None
    by true = none
    by false = refl

-- the head of a line opens a group
pub IsOpen-line : (text : List ℕ) (members : ℕ) (head : Head) → line_head (Some text) ≡ Some head → head.members ≡ members → HasNoFeed text → IsOpen text members
IsOpen-line text members head is count unfed = subst (IsOpen text) count (by_test (is_utf8 text) refl is)
  where
    by_test : (utf8 : Bool) → is_utf8 text ≡ utf8 → cond utf8 (head_of text) None ≡ Some head → IsOpen text head.members
    by_test true is_text h = IsOpen-head text head h is_text unfed
    by_test false is_text h = absurd cc

-- blanks alone, which are a text
pub passed-blanks : (bytes : List ℕ) → (list_all is_blank bytes && is_utf8 bytes) ≡ is_passed_over (Some bytes)
passed-blanks bytes = turned (list_all is_blank bytes) (is_utf8 bytes)
  where
    turned : (x y : Bool) → (x && y) ≡ (y && x)
    turned true true = refl
    turned true false = refl
    turned false true = refl
    turned false false = refl

pub member_text-text : (bytes text found : List ℕ) → text ≡ bytes → IsUtf8 bytes → found ≡ cond (list_any is_return text) [] text → found ≡ member_text (Some bytes)
member_text-text bytes text found same is_text is =
    is ∙ ap (λ t. cond (list_any is_return t) [] t) same ∙ turned (list_any is_return bytes)
    ∙ sym (ap (λ b. cond (b && not (list_any is_return bytes)) bytes []) (is_utf8-from_IsUtf8 bytes is_text))
  where
    turned : (has : Bool) → cond has [] bytes ≡ cond (not has) bytes []
    turned true = refl
    turned false = refl

pub member_text-bytes : (bytes : List ℕ) → (IsUtf8 bytes → ⊥) → [] ≡ member_text (Some bytes)
member_text-bytes bytes none = sym (ap (λ b. cond (b && not (list_any is_return bytes)) bytes []) (not_utf8 bytes none))

-- a group behind its last member
pub whole-lost : (text : List ℕ) (left : ℕ) → left ≡ 0 → IsGrown text left
    → IsHeld (gathered_on text left).0 lines.Closed × ((line : Option (List ℕ)) → Asks line (gathered_on text left).1 asks.Lost)
whole-lost text zero is g = (tt, λ line. IsGrouped-grown text g)
whole-lost text (suc left) is g = absurd cc

pub whole-asked : (text : String Global) (left : ℕ) → left ≡ 0 → IsGrown (string_bytes text) left
    → IsHeld (gathered_on (string_bytes text) left).0 lines.Closed × ((line : Option (List ℕ)) → Asks line (gathered_on (string_bytes text) left).1 (asks.Group text))
whole-asked text zero is g = (tt, λ line. (refl, g.unfed, IsGrouped-grown (string_bytes text) g))
whole-asked text (suc left) is g = absurd cc

-- one with more to come
pub more-lost : (text : List ℕ) (left : ℕ) → (left ≡ 0 → ⊥) → IsGrown text left
    → IsHeld (gathered_on text left).0 (lines.Lost left) × ((line : Option (List ℕ)) → Asks line (gathered_on text left).1 asks.Nothing)
more-lost text zero some g = absurd (some refl)
more-lost text (suc left) some g = ((refl, IsOpen-grown text (suc left) g (omega arith)), λ line. refl)

pub more-asked : (text : String Global) (left : ℕ) → (left ≡ 0 → ⊥) → IsGrown (string_bytes text) left
    → IsHeld (gathered_on (string_bytes text) left).0 (lines.Open text left) × ((line : Option (List ℕ)) → Asks line (gathered_on (string_bytes text) left).1 asks.Nothing)
more-asked text zero some g = absurd (some refl)
more-asked text (suc left) some g = ((refl, refl, IsOpen-grown (string_bytes text) (suc left) g (omega arith)), λ line. refl)

-- what a line inside of a group asks, where it is not passed over
pub inside-on : (text : List ℕ) (left to_come : ℕ) (line : Option (List ℕ)) (held : GroupLines) (asked : LineAsks) → is_passed_over line ≡ false → to_come ≡ left - 1
    → IsHeld (gathered_on (with_member text line) to_come).0 held × ((l : Option (List ℕ)) → Asks l (gathered_on (with_member text line) to_come).1 asked)
    → IsHeld (gathered (Open text left) (Comes line)).0 held × Asks line (gathered (Open text left) (Comes line)).1 asked
inside-on text left to_come line held asked passed count (is_held, asks_so) =
    let here : gathered_on (with_member text line) to_come ≡ gathered (Open text left) (Comes line) =
    ap (gathered_on (with_member text line)) count ∙ sym (ap (λ b. inside_by b) passed) in (
      subst (λ g. IsHeld g.0 held) here is_held,
      subst (λ g. Asks line g.1 asked) here (asks_so line),
    )
  where
    inside_by : Bool → Gathering × Request
    inside_by b = cond b (Open text left, nothing_asked) (gathered_on (with_member text line) (left - 1))

pub IsGrown-left : (text : List ℕ) (left to_come : ℕ) (line : Option (List ℕ)) → IsOpen text left → IsUnfed line → to_come ≡ left - 1 → IsGrown (with_member text line) to_come
IsGrown-left text left to_come line opens unfed count = subst (IsGrown (with_member text line)) (sym count) (IsGrown-member text left line opens unfed)

-- one blank more
replicate-more : (n : ℕ) → ◌++◌ {A = ℕ} (replicate n 32) (32 ∷ []) ≡ replicate (n + 1) 32
replicate-more n = let next : suc n ≡ n + 1 = omega arith in more n ∙ ap (λ m. replicate m 32) next
  where
    more : (m : ℕ) → ◌++◌ {A = ℕ} (replicate m 32) (32 ∷ []) ≡ replicate (suc m) 32
    more zero = refl
    more (suc m) = ap (λ l. 32 ∷ l) (more m)

pub blanks-more : (base bytes : List ℕ) (n : ℕ) → bytes ≡ base ++ replicate n 32 → bytes ++ 32 ∷ [] ≡ base ++ replicate (n + 1) 32
blanks-more base bytes n is =
    ap (λ l. l ++ 32 ∷ []) is ∙ append_assoc base (replicate n 32) (32 ∷ []) ∙ ap (λ l. base ++ l) (replicate-more n)
