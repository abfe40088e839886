-- What a line is, and what its answer is.
use Rattle.std.proofs.Common.{◌≡◌, ℕ, zero, suc, ◌-◌, ◌<◌, ◌≤◌, Option, None, Some, if◌then◌else◌, append_assoc, Bool, true, false, not, cond, nat_lt, inl, inr, List, [], ◌∷◌, ◌++◌, length, Result, Ok, Err, refl, sym, ap, ◌∙◌, subst, arith}
use Rattle.std.specs.List.{list_all}
use Rattle.std.specs.Result.{IsErrAnd}
use Rattle.std.specs.Str.{is_utf8, IsUtf8}
use Rattle.std.proofs.lemmas.Str.{IsUtf8-from_is_utf8}
use Rattle.std.proofs.lemmas.List.{map-append}
use Rattle.std.proofs.lemmas.Grind.{common_steps}
use Rattle.sf_refusals.specs.declared.refusal.Refusal.{Refusal}
use Rattle.sf_refusals.specs.declared.refusal.Refusal.TheVariants.{Memory, BadCommand}
use Rattle.sf_text_lines.specs.Lines.{Line, ended_lines, line_max, lines_of, text_of, IsWhole, HasNoFeed}
use Rattle.sf_text_lines.proofs.LineLemmas.{lines_of-whole, lines_of-unfed, lines_of-fed, ended_lines-whole, ended_lines-append, IsWhole-fed}
use Rattle.sf_wkt.specs.Tokens.{is_blank}
use Rattle.sf_history.specs.History.{Machine}
use Rattle.sf_commands.specs.declared.command.Command.{Command}
use Rattle.sf_commands.specs.Commands.{command_of, takes_memory, OrMemoryIf}
use Rattle.sf_console.specs.declared.reply.Reply.{Reply}
use Rattle.sf_console.specs.Answers.{refusal_line, reply, reply_text}
use Rattle.sf_groups.specs.declared.member.Member.{Member}
use Rattle.sf_commands.specs.declared.group_text.GroupRefusal.{GroupRefusal}
use Rattle.sf_commands.specs.declared.head.Head.{Head}
use Rattle.sf_commands.specs.GroupTexts.{group_of}
use Rattle.sf_console.specs.Readings.{Reading, Blank, Unreadable, Asked, Grouped, by_group, line_text, text_reading}
use Rattle.sf_console.specs.Requests.{Closed, Comes, Ends, Event, Gathering, Open, Request, come, gathered, gathered_on, is_passed_over, left_by, left_in, line_head, nothing_asked, outside, readings, readings_of, requests_from, whole_lines_come, whole_readings_of, with_member}
use Rattle.sf_console.specs.Gatherings.{events_at_end}
use Rattle.sf_console.specs.Chunks.{readings_in}
use Rattle.sf_console.specs.Session.{IsAnswered, MayWant}

-- what a text is, by two tests
abbrev reading_by : Bool → Bool → List ℕ → Reading
reading_by utf8 blank text = cond (not utf8) (Unreadable BadCommand) (cond blank Blank (by_group text (group_of text)))

pub text_reading-by : (text : List ℕ) (utf8 blank : Bool) → is_utf8 text ≡ utf8 → list_all is_blank text ≡ blank → text_reading text ≡ reading_by utf8 blank text
text_reading-by text utf8 blank u b = ap (λ x. reading_by x (list_all is_blank text) text) u ∙ ap (λ x. reading_by utf8 x text) b

-- a text that is a group, and one that is none
pub text_reading-group : (text : List ℕ) (editor : ℕ) (members : Result (List Member) GroupRefusal) → is_utf8 text ≡ true → list_all is_blank text ≡ false
    → group_of text ≡ Some (editor, members) → text_reading text ≡ Grouped editor members
text_reading-group text editor members u b is = text_reading-by text true false u b ∙ ap (by_group text) is

pub text_reading-alone : (text : List ℕ) → is_utf8 text ≡ true → list_all is_blank text ≡ false → group_of text ≡ None
    → text_reading text ≡ Asked (takes_memory text) (command_of text)
text_reading-alone text u b is = text_reading-by text true false u b ∙ ap (by_group text) is

-- memory may be wanting for what takes it as it is carried out, whether or not reading takes any
carried : (takes : Bool) (old : Machine) (command : Result (ℕ × Command) Refusal) → MayWant old false command → MayWant old takes command
carried takes old command (inl none) = absurd cc
carried takes old command (inr may) = inr may

-- what answers a command that was read answers the line's own
read_as : (takes : Bool) (old new : Machine) (text : List ℕ) (expected r : Result (ℕ × Command) Refusal) → r ≡ expected
    → IsAnswered old (Asked false r) text new → IsAnswered old (Asked takes expected) text new
read_as takes old new text expected r is (inl replied) = inl (ap (reply old) (sym is) ∙ replied)
read_as takes old new text expected r is (inr refused) = inr (refused.0, refused.1, carried takes old expected (subst (MayWant old false) is refused.2))

-- a command that is read, or refused as out of memory where reading takes some, is carried out as the line's own
pub IsAnswered-asked : (takes : Bool) (old new : Machine) (text : List ℕ) (expected r : Result (ℕ × Command) Refusal)
    → OrMemoryIf takes expected r → IsAnswered old (Asked false r) text new → IsAnswered old (Asked takes expected) text new
IsAnswered-asked false old new text expected r is gives = read_as false old new text expected r is gives
IsAnswered-asked true old new text expected (Err Memory) or (inl e) = inr (sym (ap (λ p. p.1) e), sym (ap (λ p. p.0) e), inl refl)
IsAnswered-asked true old new text expected (Err Memory) or (inr e) = inr (e.0, e.1, inl refl)
IsAnswered-asked true old new text expected r is gives = read_as true old new text expected r is gives

-- the text of a refusal that was passed on
pub refused_text : (r : Result Reply Refusal) (refusal : Refusal) → IsErrAnd r (λ e. e ≡ refusal) → reply_text r ≡ refusal_line refusal
refused_text (Ok reply) refusal is = absurd is
refused_text (Err e) refusal is = ap refusal_line is

-- a command that was refused as it was read
pub IsAnswered-refused : (takes : Bool) (old : Machine) (expected : Result (ℕ × Command) Refusal) (refusal : Refusal) (r : Result Reply Refusal)
    → OrMemoryIf takes expected (Err refusal) → IsErrAnd r (λ e. e ≡ refusal) → IsAnswered old (Asked takes expected) (reply_text r) old
IsAnswered-refused takes old expected refusal r or is =
    subst (λ text. IsAnswered old (Asked takes expected) text old) (sym (refused_text r refusal is))
    (IsAnswered-asked takes old old (refusal_line refusal) expected (Err refusal) or (inl refl))

pub not_utf8 : (bs : List ℕ) → (IsUtf8 bs → ⊥) → is_utf8 bs ≡ false
not_utf8 bs none = at_test (is_utf8 bs) refl
  where
    at_test : (x : Bool) → is_utf8 bs ≡ x → x ≡ false
    at_test true is = absurd (none (IsUtf8-from_is_utf8 bs is))
    at_test false is = refl

-- ---- the texts of lines

not_longer : (n : ℕ) → n ≤ line_max → nat_lt line_max n ≡ false
not_longer n short = grind (arith, common_steps)

longer : (n : ℕ) → line_max < n → nat_lt line_max n ≡ true
longer n long = grind (arith, common_steps)

-- the text of a line, by the test of its length
abbrev text_within : Bool → List ℕ → Option (List ℕ)
text_within long text = cond long None (Some text)

pub line_text-short : (line : Line) → length line.bytes ≤ line_max → line_text line ≡ Some (text_of line)
line_text-short line short = ap (λ x. text_within x (text_of line)) (not_longer (length line.bytes) short)

pub line_text-long : (line : Line) → line_max < length line.bytes → line_text line ≡ None
line_text-long line long = ap (λ x. text_within x (text_of line)) (longer (length line.bytes) long)

-- ---- events one after another

pub requests_from-append : (gathering : Gathering) (events more : List Event)
    → requests_from gathering (events ++ more) ≡ requests_from gathering events ++ requests_from (left_by gathering events) more
requests_from-append gathering [] more = refl
requests_from-append gathering (event ∷ events) more =
    ap (λ requests. (gathered gathering event).1 ∷ requests) (requests_from-append (gathered gathering event).0 events more)

pub left_by-append : (gathering : Gathering) (events more : List Event) → left_by gathering (events ++ more) ≡ left_by (left_by gathering events) more
left_by-append gathering [] more = refl
left_by-append gathering (event ∷ events) more = left_by-append (gathered gathering event).0 events more

abbrev reading_at : Request → Reading
reading_at request = request.reading

pub readings-append : (gathering : Gathering) (events more : List Event)
    → readings (requests_from gathering (events ++ more)) ≡ readings (requests_from gathering events) ++ readings (requests_from (left_by gathering events) more)
readings-append gathering events more = ap readings (requests_from-append gathering events more) ∙ map-append reading_at _ _

abbrev event_of : Line → Event
event_of line = Comes (line_text line)

pub come-append : (lines more : List Line) → come (lines ++ more) ≡ come lines ++ come more
come-append lines more = map-append event_of lines more

-- ---- bytes that come in parts

pub come-whole : (xs ys : List ℕ) → IsWhole xs → come (lines_of (xs ++ ys)) ≡ come (lines_of xs) ++ come (lines_of ys)
come-whole xs ys whole = ap come (lines_of-whole xs ys whole) ∙ come-append (lines_of xs) (lines_of ys)

pub come-fed : (xs : List ℕ) → HasNoFeed xs → come (lines_of (xs ++ 10 ∷ [])) ≡ Comes (line_text (record { bytes = xs; ended = true })) ∷ []
come-fed xs unfed = ap come (lines_of-fed xs unfed)

pub readings_in-whole : (gathering : Gathering) (xs ys : List ℕ) → IsWhole xs
    → readings_in gathering (xs ++ ys) ≡ readings_in gathering xs ++ readings_in (left_in gathering xs) ys
readings_in-whole gathering xs ys whole =
    ap (λ events. readings (requests_from gathering events)) (come-whole xs ys whole) ∙ readings-append gathering (come (lines_of xs)) (come (lines_of ys))

pub left_in-whole : (gathering : Gathering) (xs ys : List ℕ) → IsWhole xs → left_in gathering (xs ++ ys) ≡ left_in (left_in gathering xs) ys
left_in-whole gathering xs ys whole = ap (left_by gathering) (come-whole xs ys whole) ∙ left_by-append gathering (come (lines_of xs)) (come (lines_of ys))

pub readings_in-fed : (gathering : Gathering) (xs : List ℕ) → HasNoFeed xs
    → readings_in gathering (xs ++ 10 ∷ []) ≡ (gathered gathering (Comes (line_text (record { bytes = xs; ended = true })))).1.reading ∷ []
readings_in-fed gathering xs unfed = ap (λ events. readings (requests_from gathering events)) (come-fed xs unfed)

pub left_in-fed : (gathering : Gathering) (xs : List ℕ) → HasNoFeed xs
    → left_in gathering (xs ++ 10 ∷ []) ≡ (gathered gathering (Comes (line_text (record { bytes = xs; ended = true })))).0
left_in-fed gathering xs unfed = ap (left_by gathering) (come-fed xs unfed)

-- what has no line feed at the end of the input
events-unfed : (bytes : List ℕ) → HasNoFeed bytes → come (lines_of bytes) ++ Ends ∷ [] ≡ events_at_end bytes
events-unfed [] unfed = refl
events-unfed (b ∷ bytes) unfed = ap (λ lines. come lines ++ Ends ∷ []) (lines_of-unfed b bytes unfed)

-- what all of the input asks, where whole lines came and then bytes without a line feed
pub readings_of-whole : (xs ys : List ℕ) → IsWhole xs → HasNoFeed ys
    → readings_of (xs ++ ys) ≡ readings_in Closed xs ++ readings (requests_from (left_in Closed xs) (events_at_end ys))
readings_of-whole xs ys whole unfed =
    ap (λ events. readings (requests_from Closed events))
    (ap (λ events. events ++ Ends ∷ []) (come-whole xs ys whole) ∙ append_assoc (come (lines_of xs)) (come (lines_of ys)) (Ends ∷ [])
    ∙ ap (λ events. come (lines_of xs) ++ events) (events-unfed ys unfed))
    ∙ readings-append Closed (come (lines_of xs)) (events_at_end ys)

pub whole_readings_of-whole : (xs ys : List ℕ) → IsWhole xs → HasNoFeed ys → whole_readings_of (xs ++ ys) ≡ readings_in Closed xs
whole_readings_of-whole xs ys whole unfed = ap (λ lines. readings (requests_from Closed (come lines))) (ended_lines-whole xs ys whole unfed)

pub whole_lines_come-append : (xs ys : List ℕ) → IsWhole xs → whole_lines_come (xs ++ ys) ≡ come (lines_of xs) ++ whole_lines_come ys
whole_lines_come-append xs ys whole = ap come (ended_lines-append xs ys whole) ∙ come-append (lines_of xs) (ended_lines (lines_of ys))

-- what whole lines ask, and then a line with its line feed, and what comes behind it
pub whole_readings_of-line : (xs ys line rest : List ℕ) → IsWhole xs → IsWhole ys → HasNoFeed line
    → whole_readings_of (xs ++ (ys ++ ((line ++ 10 ∷ []) ++ rest)))
    ≡ readings_in Closed xs ++ (readings_in (left_in Closed xs) ys
    ++ (gathered (left_in (left_in Closed xs) ys) (Comes (line_text (record { bytes = line; ended = true })))).1.reading
    ∷ readings (requests_from (gathered (left_in (left_in Closed xs) ys) (Comes (line_text (record { bytes = line; ended = true })))).0 (whole_lines_come rest)))
whole_readings_of-line xs ys line rest whole also unfed =
    ap (λ events. readings (requests_from Closed events))
    (whole_lines_come-append xs (ys ++ ((line ++ 10 ∷ []) ++ rest)) whole
    ∙ ap (λ events. come (lines_of xs) ++ events) (whole_lines_come-append ys ((line ++ 10 ∷ []) ++ rest) also
    ∙ ap (λ events. come (lines_of ys) ++ events) (whole_lines_come-append (line ++ 10 ∷ []) rest (IsWhole-fed line)
    ∙ ap (λ events. events ++ whole_lines_come rest) (come-fed line unfed))))
    ∙ readings-append Closed (come (lines_of xs)) (come (lines_of ys) ++ Comes (line_text (record { bytes = line; ended = true })) ∷ whole_lines_come rest)
    ∙ ap (λ later. readings_in Closed xs ++ later)
    (readings-append (left_in Closed xs) (come (lines_of ys)) (Comes (line_text (record { bytes = line; ended = true })) ∷ whole_lines_come rest))

-- a group that is open behind an event was asked nothing of
pub open-asks_nothing : (gathering : Gathering) (event : Event) (text : List ℕ) (left : ℕ) → (gathered gathering event).0 ≡ Open text left
    → (gathered gathering event).1 ≡ nothing_asked
open-asks_nothing Closed (Comes line) text left is = of_head line (line_head line) is
  where
    of_head : (line : Option (List ℕ)) (head : Option Head) → (outside line head).0 ≡ Open text left → (outside line head).1 ≡ nothing_asked
    of_head line None is = absurd cc
    of_head line (Some head) is = refl
open-asks_nothing Closed Ends text left is = refl
open-asks_nothing (Open had to_come) (Comes line) text left is = of_test (is_passed_over line) is
  where
    of_count : (whole : List ℕ) (n : ℕ) → (gathered_on whole n).0 ≡ Open text left → (gathered_on whole n).1 ≡ nothing_asked
    of_count whole zero is = absurd cc
    of_count whole (suc n) is = refl

    of_test : (passed : Bool) → (if passed then (Open had to_come, nothing_asked) else gathered_on (with_member had line) (to_come - 1)).0 ≡ Open text left
        → (if passed then (Open had to_come, nothing_asked) else gathered_on (with_member had line) (to_come - 1)).1 ≡ nothing_asked
    of_test true is = refl
    of_test false is = of_count (with_member had line) (to_come - 1) is
open-asks_nothing (Open had to_come) Ends text left is = absurd cc
