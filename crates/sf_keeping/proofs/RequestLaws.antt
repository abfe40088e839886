-- What bytes ask that come in parts, and which of it asks for a save.
use Rattle.std.proofs.Common.{◌≡◌, ◌≢◌, ◌↔◌, ℕ, zero, suc, ◌+◌, ◌-◌, ◌<◌, ◌≤◌, Bool, true, false, IsTrue, cond, ◌==◌, ◌||◌, codes, nat_lt, List, [], ◌∷◌, ◌++◌, take, drop, slice_index, length, Option, None, Some, if◌then◌else◌, refl, sym, ap, ◌∙◌, subst, append_assoc, arith}
use Rattle.std.proofs.lemmas.List.{take-append-drop, length-append}
use Rattle.std.proofs.lemmas.Grind.{common_steps}
use Rattle.std.proofs.lemmas.Slice.Eq.{bytes_eq-Decides}
use Rattle.std.specs.List.{list_any}
use Rattle.sf_text_lines.specs.Lines.{Line, line_max, lines_of, text_of, without_return, IsWhole, HasNoFeed}
use Rattle.sf_text_lines.proofs.LineLemmas.{lines_of-unfed}
use Rattle.sf_text_lines.specs.Buffers.{Buffered, IsBufferOf, line_buffered, nothing_buffered}
use Rattle.sf_text_lines.proofs.BufferLemmas.{nothing_buffered-of}
use Rattle.sf_console.specs.Carried.{Head}
use Rattle.sf_console.specs.Readings.{line_text}
use Rattle.sf_console.specs.Requests.{Closed, Comes, Ends, Gathering, Open, Request, come, gathered, gathered_on, inside, is_passed_over, left_in, line_head, member_text, nothing_asked, outside, requests_from, requests_in, requests_of, text_asked, whole_lines_come, whole_requests_of, with_member}
use Rattle.sf_console.specs.Gatherings.{IsUnfed, events_at_end}
use Rattle.sf_console.proofs.ReadingLemmas.{come-fed, come-whole, line_text-long, line_text-short, requests_from-append, whole_lines_come-append}
use Rattle.sf_keeping.specs.Saves.{is_save, AskForNone}
use Rattle.sf_keeping.specs.Underway.{IsLineText, asked_at_end, gathered_by, last_asked, last_left}

-- ---- bytes that come in parts

pub requests_in-whole : (gathering : Gathering) (xs ys : List ℕ) → IsWhole xs
    → requests_in gathering (xs ++ ys) ≡ requests_in gathering xs ++ requests_in (left_in gathering xs) ys
requests_in-whole gathering xs ys whole =
    ap (requests_from gathering) (come-whole xs ys whole) ∙ requests_from-append gathering (come (lines_of xs)) (come (lines_of ys))

pub requests_in-fed : (gathering : Gathering) (xs : List ℕ) → HasNoFeed xs → requests_in gathering (xs ++ 10 ∷ []) ≡ (gathered_by gathering xs).1 ∷ []
requests_in-fed gathering xs unfed = ap (requests_from gathering) (come-fed xs unfed)

-- whole bytes, and a line more
pub requests_in-more : (gathering : Gathering) (xs line : List ℕ) → IsWhole xs → HasNoFeed line
    → requests_in gathering (xs ++ (line ++ 10 ∷ [])) ≡ requests_in gathering xs ++ (gathered_by (left_in gathering xs) line).1 ∷ []
requests_in-more gathering xs line whole unfed =
    requests_in-whole gathering xs (line ++ 10 ∷ []) whole ∙ ap (λ l. requests_in gathering xs ++ l) (requests_in-fed (left_in gathering xs) line unfed)

-- all of the input, of which the first bytes are whole lines
pub requests_of-whole : (xs ys : List ℕ) → IsWhole xs
    → requests_of (xs ++ ys) ≡ requests_in Closed xs ++ requests_from (left_in Closed xs) (come (lines_of ys) ++ Ends ∷ [])
requests_of-whole xs ys whole =
    ap (λ events. requests_from Closed (events ++ Ends ∷ [])) (come-whole xs ys whole)
    ∙ ap (requests_from Closed) (append_assoc (come (lines_of xs)) (come (lines_of ys)) (Ends ∷ []))
    ∙ requests_from-append Closed (come (lines_of xs)) (come (lines_of ys) ++ Ends ∷ [])

-- the whole lines of bytes of which the first are whole
pub whole_requests_of-whole : (xs ys : List ℕ) → IsWhole xs → whole_requests_of (xs ++ ys) ≡ requests_in Closed xs ++ requests_from (left_in Closed xs) (whole_lines_come ys)
whole_requests_of-whole xs ys whole =
    ap (requests_from Closed) (whole_lines_come-append xs ys whole) ∙ requests_from-append Closed (come (lines_of xs)) (whole_lines_come ys)

-- the last bytes as an event, and the end behind it
last_events : (bytes : List ℕ) → HasNoFeed bytes → come (lines_of bytes) ++ Ends ∷ [] ≡ events_at_end bytes
last_events [] unfed = refl
last_events (b ∷ bytes) unfed = ap (λ lines. come lines ++ Ends ∷ []) (lines_of-unfed b bytes unfed)

-- and behind them there is no whole line
pub requests_of-end : (xs ys : List ℕ) → IsWhole xs → HasNoFeed ys → requests_of (xs ++ ys) ≡ requests_in Closed xs ++ asked_at_end (left_in Closed xs) ys
requests_of-end xs ys whole unfed =
    requests_of-whole xs ys whole ∙ ap (λ events. requests_in Closed xs ++ requests_from (left_in Closed xs) events) (last_events ys unfed)

-- what bytes ask is first of what they and the end ask
pub requests_from-first : (gathering : Gathering) (bytes : List ℕ)
    → (later : List Request) × (requests_from gathering (come (lines_of bytes) ++ Ends ∷ []) ≡ requests_in gathering bytes ++ later)
requests_from-first gathering bytes =
    (requests_from (left_in gathering bytes) (Ends ∷ []), requests_from-append gathering (come (lines_of bytes)) (Ends ∷ []))

-- the last bytes, and the end behind them
pub asked_at_end-parts : (gathering : Gathering) (bytes : List ℕ) → asked_at_end gathering bytes ≡ last_asked gathering bytes ++ (gathered (last_left gathering bytes) Ends).1 ∷ []
asked_at_end-parts gathering [] = refl
asked_at_end-parts gathering (b ∷ bytes) = refl

-- ---- what asks for a save

-- of two lists none asks for a save
pub AskForNone-append : (asked more : List Request) → AskForNone asked → AskForNone more → AskForNone (asked ++ more)
AskForNone-append [] more none others = others
AskForNone-append (request ∷ asked) more none others = (none.0, AskForNone-append asked more none.1 others)

pub AskForNone-front : (asked more : List Request) → AskForNone (asked ++ more) → AskForNone asked
AskForNone-front [] more none = tt
AskForNone-front (request ∷ asked) more none = (none.0, AskForNone-front asked more none.1)

-- a text with a carriage return is no save
has_return : (text more : List ℕ) → list_any (λ b. b == 13) (text ++ 13 ∷ more) ≡ true
has_return [] more = refl
has_return (b ∷ text) more = by_byte (b == 13) (has_return text more)
  where
    by_byte : (is : Bool) → list_any (λ c. c == 13) (text ++ 13 ∷ more) ≡ true → (is || list_any (λ c. c == 13) (text ++ 13 ∷ more)) ≡ true
    by_byte true later = refl
    by_byte false later = later

return-no-save : (text more : List ℕ) → is_save (text ++ 13 ∷ more) ≡ false
return-no-save text more = at (is_save (text ++ 13 ∷ more)) refl
  where
    at : (b : Bool) → is_save (text ++ 13 ∷ more) ≡ b → b ≡ false
    at false is = refl
    at true is = sym (has_return text more) ∙ ap (list_any (λ b. b == 13)) ((bytes_eq-Decides (text ++ 13 ∷ more) (codes "save")).0 is)

-- a line inside of a group asks for none
inside-no-save : (text : List ℕ) (left : ℕ) (line : Option (List ℕ)) → is_save (inside text left line).1.text ≡ false
inside-no-save text left line = of_test (is_passed_over line)
  where
    of_count : (n : ℕ) → is_save (gathered_on (with_member text line) n).1.text ≡ false
    of_count zero = return-no-save text (member_text line)
    of_count (suc n) = refl

    of_test : (passed : Bool) → is_save (if passed then (Open text left, nothing_asked) else gathered_on (with_member text line) (left - 1)).1.text ≡ false
    of_test true = refl
    of_test false = of_count (left - 1)

-- nor does one outside of groups whose text is none
outside-no-save : (line : Option (List ℕ)) → is_save (text_asked line) ≡ false → is_save (outside line (line_head line)).1.text ≡ false
outside-no-save line none = of_head (line_head line)
  where
    of_head : (head : Option Head) → is_save (outside line head).1.text ≡ false
    of_head None = none
    of_head (Some head) = refl

text_asked-no-save : (line : Line) → is_save (text_of line) ≡ false → is_save (text_asked (line_text line)) ≡ false
text_asked-no-save line none = of_test (nat_lt line_max (length line.bytes))
  where
    of_test : (long : Bool) → is_save (text_asked (if long then None else Some (text_of line))) ≡ false
    of_test true = refl
    of_test false = none

-- a line asks for none that is inside of a group or whose text is none
pub line-no-save : (gathering : Gathering) (line : Line) → (gathering ≡ Closed → is_save (text_of line) ≡ false) → is_save (gathered gathering (Comes (line_text line))).1.text ≡ false
line-no-save Closed line none = outside-no-save (line_text line) (text_asked-no-save line (none refl))
line-no-save (Open text left) line none = inside-no-save text left (line_text line)

end-no-save : (gathering : Gathering) → is_save (gathered gathering Ends).1.text ≡ false
end-no-save Closed = refl
end-no-save (Open text left) = refl

-- the last bytes, and the end behind them
pub end-ask-for-none : (gathering : Gathering) (bytes : List ℕ) → (gathering ≡ Closed → is_save bytes ≡ false) → AskForNone (asked_at_end gathering bytes)
end-ask-for-none gathering [] none = (end-no-save gathering, tt)
end-ask-for-none gathering (b ∷ bytes) none =
    (line-no-save gathering (record { bytes = b ∷ bytes; ended = false }) none, (end-no-save (last_left gathering (b ∷ bytes)), tt))

-- what is longer than a line is no save
pub long-no-save : (bytes : List ℕ) → line_max < length bytes → is_save bytes ≡ false
long-no-save bytes long = at (is_save bytes) refl
  where
    at : (b : Bool) → is_save bytes ≡ b → b ≡ false
    at false h = refl
    at true h =
        let same : bytes ≡ codes "save" = (bytes_eq-Decides bytes (codes "save")).0 h in
        let short : length bytes ≡ 4 = ap length same in
        absurd (omega (arith, long, short))

-- ---- the texts of lines

-- what begins bytes without a feed has none
unfed-front : (xs ys : List ℕ) → HasNoFeed (xs ++ ys) → HasNoFeed xs
unfed-front [] ys unfed = refl
unfed-front (x ∷ xs) ys unfed = at_byte (unfed-front xs ys) (x == 10) unfed
  where
    at_byte : (HasNoFeed (xs ++ ys) → HasNoFeed xs) → (b : Bool) → (b || list_any (λ c. c == 10) (xs ++ ys)) ≡ false → (b || list_any (λ c. c == 10) xs) ≡ false
    at_byte later true h = cc
    at_byte later false h = later h

-- the text of a line has no feed where the line has none
unfed-without_return : (bytes : List ℕ) → HasNoFeed bytes → HasNoFeed (without_return bytes)
unfed-without_return bytes unfed = by (slice_index bytes (length bytes - 1) == 13)
  where
    by : (b : Bool) → HasNoFeed (cond b (take (length bytes - 1) bytes) bytes)
    by true = unfed-front (take (length bytes - 1) bytes) (drop (length bytes - 1) bytes) (subst HasNoFeed (sym (take-append-drop (length bytes - 1) bytes)) unfed)
    by false = unfed

pub unfed-text_of : (line : Line) → HasNoFeed line.bytes → HasNoFeed (text_of line)
unfed-text_of line unfed = by line.ended
  where
    by : (ended : Bool) → HasNoFeed (cond ended (without_return line.bytes) line.bytes)
    by true = unfed-without_return line.bytes unfed
    by false = unfed

-- what is taken off the end makes bytes no longer
take-shorter : (n : ℕ) (bytes : List ℕ) → length (take n bytes) ≤ length bytes
take-shorter n bytes =
    let parts : length (take n bytes) + length (drop n bytes) ≡ length bytes = sym (length-append (take n bytes) (drop n bytes)) ∙ ap length (take-append-drop n bytes) in
    omega (arith, parts)

text_of-shorter : (line : Line) → length (text_of line) ≤ length line.bytes
text_of-shorter line = by line.ended (slice_index line.bytes (length line.bytes - 1) == 13)
  where
    by : (ended returned : Bool) → length (cond ended (cond returned (take (length line.bytes - 1) line.bytes) line.bytes) line.bytes) ≤ length line.bytes
    by true true = take-shorter (length line.bytes - 1) line.bytes
    by true false = omega arith
    by false returned = omega arith

-- the text of a line is one
pub IsLineText-of : (line : Line) → HasNoFeed line.bytes → IsLineText (line_text line)
IsLineText-of line unfed = of_test (nat_lt line_max (length line.bytes)) refl
  where
    short : nat_lt line_max (length line.bytes) ≡ false → length (text_of line) ≤ line_max
    short is =
        let bytes : length line.bytes ≤ line_max = grind (arith, common_steps) in
        let text = text_of-shorter line in
        omega (arith, bytes, text)

    of_test : (long : Bool) → nat_lt line_max (length line.bytes) ≡ long → IsLineText (if long then None else Some (text_of line))
    of_test true is = tt
    of_test false is = (short is, unfed-text_of line unfed)

pub IsUnfed-of : (text : Option (List ℕ)) → IsLineText text → IsUnfed text
IsUnfed-of None is = tt
IsUnfed-of (Some text) is = is.1

-- the bytes in the buffer, as the last line
pub last_text-buffer : (bytes : List ℕ) (buffered : Buffered) → IsBufferOf bytes buffered → line_buffered buffered ≡ line_text (record { bytes = bytes; ended = false })
last_text-buffer bytes buffered is_buffer = at buffered.overlong refl
  where
    at : (long : Bool) → buffered.overlong ≡ long → cond long None (Some buffered.bytes) ≡ line_text (record { bytes = bytes; ended = false })
    at true is = sym (line_text-long (record { bytes = bytes; ended = false }) (is_buffer.long is))
    at false is = ap Some (is_buffer.whole is) ∙ sym (line_text-short (record { bytes = bytes; ended = false }) (is_buffer.short is))

-- bytes are there, where the buffer has some
pub bytes-some : (bytes : List ℕ) (buffered : Buffered) (empty : Bool) → IsBufferOf bytes buffered → IsTrue empty ↔ (buffered ≡ nothing_buffered) → empty ≡ false → bytes ≢ []
bytes-some bytes buffered empty is_buffer says is none = no (says.1 (nothing_buffered-of buffered (at buffered.overlong refl) (is_buffer.whole (at buffered.overlong refl) ∙ none)))
  where
    at : (long : Bool) → buffered.overlong ≡ long → buffered.overlong ≡ false
    at false is_long = is_long
    at true is_long =
        let long : line_max < length bytes = is_buffer.long is_long in
        let zero : length bytes ≡ 0 = ap length none in
        absurd (omega (arith, long, zero))

    no : IsTrue empty → ⊥
    no h = cc
