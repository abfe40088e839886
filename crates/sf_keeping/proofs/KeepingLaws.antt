-- What is asked, carried out and kept.
use Rattle.std.proofs.Common.{◌≡◌, ◌≢◌, ℕ, ◌<◌, ◌≤◌, false, inl, inr, length, append-nil, List, [], ◌∷◌, ◌++◌, Option, None, Some, refl, sym, ap, ◌∙◌, subst, append_assoc, arith}
use Rattle.sf_refusals.specs.declared.refusal.Refusal.TheVariants.{Memory}
use Rattle.sf_text_lines.specs.Lines.{HasNoFeed, line_max}
use Rattle.sf_journal.specs.Records.{sum_with}
use Rattle.sf_console.specs.History.{Machine}
use Rattle.sf_console.specs.Answers.{refusal_line}
use Rattle.sf_console.specs.declared.group_lines.GroupLines.{GroupLines}
use Rattle.sf_console.specs.Readings.{line_text, text_reading}
use Rattle.sf_console.specs.Requests.{Closed, Comes, Ends, Gathering, Request, gathered, line_head, line_request, nothing_asked}
use Rattle.sf_console.specs.Gatherings.{IsGrouped, IsHeld}
use Rattle.sf_console.specs.Session.{IsAnswered}
use Rattle.sf_console.proofs.GroupLaws.{gathered-alone}
use Rattle.sf_keeping.specs.declared.desk.KeepFault.{KeepFault}
use Rattle.sf_keeping.specs.declared.desk.KeepFault.TheVariants.{Memory as Wanting}
use Rattle.sf_keeping.specs.Desks.{Call, Makes}
use Rattle.sf_keeping.specs.Waiting.{Waiting, nothing_waits, with_text, with_answer, committing_calls, IsBrokenOff}
use Rattle.sf_keeping.specs.Changes.{changed}
use Rattle.sf_keeping.specs.Kept.{IsKept}
use Rattle.sf_keeping.specs.Underway.{IsUnderway, BrokeOff, Stays, Breaks, GoesOnBy, BreaksWithin, IsTold, IsLineText, IsRequestOf, asked_at_end, last_asked, last_left}
use Rattle.sf_keeping.proofs.KeptLaws.{Keeps-one}
use Rattle.sf_keeping.proofs.RequestLaws.{asked_at_end-parts}
use Rattle.sf_keeping.proofs.Underways.{Underway-changed, Underway-commit, Underway-broken, BrokeOff-more}

-- a text that changed the machine is kept
pub IsKept-changed : (old new : Machine) (request : Request) (text answer : List ℕ) → IsRequestOf request text
    → IsAnswered old (text_reading text) answer new → changed old (text_reading text) ≡ Some new → IsKept old request answer (text ∷ []) new
IsKept-changed old new request text answer is answered changes = (
  subst (λ r. IsAnswered old r answer new) (sym is.is_read) answered,
  inr (ap (λ t. t ∷ []) (sym is.is_text), subst HasNoFeed (sym is.is_text) is.unfed, subst (λ t. changed old (text_reading t) ≡ Some new) (sym is.is_text) changes),
)

-- what changed nothing is told
pub IsTold-by : (machine : Machine) (request : Request) (answer : List ℕ) → IsAnswered machine request.reading answer machine → IsTold machine request answer
IsTold-by machine request answer answered = (answered, inl (refl, refl))

-- a text that changed nothing is told
pub IsTold-of : (old new : Machine) (request : Request) (text answer : List ℕ) → IsRequestOf request text
    → IsAnswered old (text_reading text) answer new → new ≡ old → IsTold old request answer
IsTold-of old new request text answer is answered same =
    IsTold-by old request answer (subst (λ m. IsAnswered old request.reading answer m) same (subst (λ r. IsAnswered old r answer new) (sym is.is_read) answered))

-- of a group it may be told that no memory was found
pub IsTold-wanting : (machine : Machine) (request : Request) → IsGrouped request.reading → IsTold machine request (refusal_line Memory)
IsTold-wanting machine request (editor, group, is) =
    IsTold-by machine request (refusal_line Memory) (subst (λ r. IsAnswered machine r (refusal_line Memory) machine) (sym is) (inr (refl, refl)))

-- of what asks nothing, nothing is told
pub IsTold-nothing : (machine : Machine) (request : Request) → request ≡ nothing_asked → IsTold machine request []
IsTold-nothing machine request is = IsTold-by machine request [] (subst (λ r. IsAnswered machine r.reading [] machine) (sym is) (refl, refl))

-- what a line asks by itself is its text, which is no longer than a line
pub line_request-of : (line : Option (List ℕ)) (text : List ℕ) → line ≡ Some text → IsLineText line
    → IsRequestOf (line_request line) text × (line_max < length text → IsGrouped (line_request line).reading)
line_request-of line text is =
    subst (λ l. IsLineText l → IsRequestOf (line_request l) text × (line_max < length text → IsGrouped (line_request l).reading)) (sym is)
    (λ found. (record { is_read = refl; is_text = refl; unfed = found.1 }, λ long. absurd (too_long found.0 long)))
  where
    too_long : length text ≤ line_max → line_max < length text → ⊥
    too_long short long = omega (arith, short, long)

-- a session goes on by a text that changed the machine
pub GoesOnBy-changed : (before now : Option (List Call)) (was mid waits : Waiting) (old new : Machine) (request : Request) (text answer : List ℕ)
    → Stays before now was mid → IsRequestOf request text → IsAnswered old (text_reading text) answer new → changed old (text_reading text) ≡ Some new
    → waits ≡ with_answer (with_text mid text) answer → GoesOnBy before now was old (request ∷ []) waits new
GoesOnBy-changed before now was mid waits old new request text answer stays is answered changes next start sum first asked u =
    subst (λ w. IsUnderway start now sum first (asked ++ request ∷ []) w new) (sym next)
    (Underway-changed start now sum first asked mid old request answer text new (stays start sum first asked old u) (IsKept-changed old new request text answer is answered changes))

-- the same, where its record and its answer go out at once
pub GoesOnBy-at_once : (before mid now : Option (List Call)) (was between waits : Waiting) (old new : Machine) (request : Request) (text answer : List ℕ)
    → Stays before mid was between → IsRequestOf request text → IsAnswered old (text_reading text) answer new → changed old (text_reading text) ≡ Some new
    → Makes mid now (committing_calls (with_answer (with_text between text) answer)) → waits ≡ nothing_waits (sum_with between.sum text)
    → GoesOnBy before now was old (request ∷ []) waits new
GoesOnBy-at_once before mid now was between waits old new request text answer stays is answered changes makes next start sum first asked u =
    let on = GoesOnBy-changed before mid was between (with_answer (with_text between text) answer) old new request text answer stays is answered changes refl start sum first asked u in
    subst (λ w. IsUnderway start now sum first (asked ++ request ∷ []) w new) (sym next)
    (Underway-commit start mid now sum first (asked ++ request ∷ []) (with_answer (with_text between text) answer) new on makes)

-- it broke off there
pub BreaksWithin-at_once : (fault : KeepFault) (before mid now : Option (List Call)) (was between : Waiting) (old new : Machine) (request : Request) (text answer : List ℕ)
    → Stays before mid was between → IsRequestOf request text → IsAnswered old (text_reading text) answer new → changed old (text_reading text) ≡ Some new
    → (calls : List Call) × Makes mid now calls × IsBrokenOff fault (with_answer (with_text between text) answer) calls
    → BreaksWithin fault before now was old (request ∷ []) new
BreaksWithin-at_once fault before mid now was between old new request text answer stays is answered changes (calls, makes, broken) start sum first asked u =
    let waits = with_answer (with_text between text) answer in
    let on = GoesOnBy-changed before mid was between waits old new request text answer stays is answered changes refl start sum first asked u in
    (request ∷ [], [], refl, Underway-broken fault start mid now sum first (asked ++ request ∷ []) waits new calls on makes broken)

-- a session that stays goes on
pub GoesOnBy-stays : (before mid now : Option (List Call)) (was between waits : Waiting) (old new : Machine) (more : List Request)
    → Stays before mid was between → GoesOnBy mid now between old more waits new → GoesOnBy before now was old more waits new
GoesOnBy-stays before mid now was between waits old new more stays goes start sum first asked u = goes start sum first asked (stays start sum first asked old u)

pub BreaksWithin-stays : (fault : KeepFault) (before mid now : Option (List Call)) (was between : Waiting) (old new : Machine) (more : List Request)
    → Stays before mid was between → BreaksWithin fault mid now between old more new → BreaksWithin fault before now was old more new
BreaksWithin-stays fault before mid now was between old new more stays breaks start sum first asked u = breaks start sum first asked (stays start sum first asked old u)

-- no memory was found behind what changed the machine, before it was kept
pub BreaksWithin-changed : (before now : Option (List Call)) (was mid : Waiting) (old new : Machine) (request : Request) (text answer : List ℕ)
    → Stays before now was mid → IsRequestOf request text → IsAnswered old (text_reading text) answer new → changed old (text_reading text) ≡ Some new
    → BreaksWithin Wanting before now was old (request ∷ []) new
BreaksWithin-changed before now was mid old new request text answer stays is answered changes start sum first asked u =
    let s = stays start sum first asked old u in (
      request ∷ [],
      [],
      refl,
      BrokeOff-more Wanting start now sum first asked old (request ∷ []) answer (text ∷ []) new
          (record { calls = s.calls; makes = s.makes; moments = s.moments; told = ap (λ standing. standing.broken) s.standing })
          (Keeps-one old new request answer (text ∷ []) (IsKept-changed old new request text answer is answered changes)),
    )

-- what is told leaves the machine as it was
pub GoesOnBy-as : (before now : Option (List Call)) (was waits : Waiting) (old new : Machine) (more : List Request) → new ≡ old → GoesOnBy before now was old more waits old → GoesOnBy before now was old more waits new
GoesOnBy-as before now was waits old new more same goes = subst (λ m. GoesOnBy before now was old more waits m) (sym same) goes

pub BreaksWithin-as : (fault : KeepFault) (before now : Option (List Call)) (was : Waiting) (old new : Machine) (more : List Request) → new ≡ old → BreaksWithin fault before now was old more old → BreaksWithin fault before now was old more new
BreaksWithin-as fault before now was old new more same breaks = subst (λ m. BreaksWithin fault before now was old more m) (sym same) breaks

-- nothing more is asked
pub GoesOnBy-none : (calls : Option (List Call)) (was : Waiting) (machine : Machine) → GoesOnBy calls calls was machine [] was machine
GoesOnBy-none calls was machine start sum first asked u = subst (λ l. IsUnderway start calls sum first l was machine) (sym (append-nil asked)) u

-- requests behind others
pub GoesOnBy-trans : (before mid now : Option (List Call)) (was between waits : Waiting) (old next new : Machine) (asked more : List Request)
    → GoesOnBy before mid was old asked between next → GoesOnBy mid now between next more waits new → GoesOnBy before now was old (asked ++ more) waits new
GoesOnBy-trans before mid now was between waits old next new asked more first_on then_on start sum first earlier u =
    subst (λ l. IsUnderway start now sum first l waits new) (append_assoc earlier asked more) (then_on start sum first (earlier ++ asked) (first_on start sum first earlier u))

-- it broke off behind some of these, and more would have been asked
pub BreaksWithin-first : (fault : KeepFault) (before now : Option (List Call)) (was : Waiting) (old new : Machine) (asked more : List Request)
    → BreaksWithin fault before now was old asked new → BreaksWithin fault before now was old (asked ++ more) new
BreaksWithin-first fault before now was old new asked more breaks start sum first earlier u =
    let b = breaks start sum first earlier u in (b.0, b.1 ++ more, ap (λ l. l ++ more) b.2 ∙ append_assoc b.0 b.1 more, b.3)

-- it went on by some, and broke off within more
pub BreaksWithin-then : (fault : KeepFault) (before mid now : Option (List Call)) (was between : Waiting) (old next new : Machine) (asked more : List Request)
    → GoesOnBy before mid was old asked between next → BreaksWithin fault mid now between next more new → BreaksWithin fault before now was old (asked ++ more) new
BreaksWithin-then fault before mid now was between old next new asked more goes breaks start sum first earlier u =
    let b = breaks start sum first (earlier ++ asked) (goes start sum first earlier u) in
    (asked ++ b.0, b.1, ap (λ l. asked ++ l) b.2 ∙ sym (append_assoc asked b.0 b.1), subst (λ l. BrokeOff fault start now sum first l new) (append_assoc earlier asked b.0) b.3)

-- what is asked, and then what waits is kept
pub GoesOnBy-kept : (before mid now : Option (List Call)) (was between waits : Waiting) (old new : Machine) (more : List Request)
    → GoesOnBy before mid was old more between new → Stays mid now between waits → GoesOnBy before now was old more waits new
GoesOnBy-kept before mid now was between waits old new more goes stays start sum first asked u = stays start sum first (asked ++ more) new (goes start sum first asked u)

-- what is asked, and then what waits could not be kept
pub BreaksWithin-kept : (fault : KeepFault) (before mid now : Option (List Call)) (was between : Waiting) (old new : Machine) (more : List Request)
    → GoesOnBy before mid was old more between new → Breaks fault mid now between → BreaksWithin fault before now was old more new
BreaksWithin-kept fault before mid now was between old new more goes breaks start sum first asked u =
    (more, [], sym (append-nil more), breaks start sum first (asked ++ more) new (goes start sum first asked u))

-- it stays, and nothing waits
pub nothing-kept : (was waits : Waiting) → waits ≡ nothing_waits was.sum → waits ≡ nothing_waits waits.sum
nothing-kept was waits is = is ∙ ap nothing_waits (ap (λ w. w.sum) (sym is))

-- a line was carried out whose text is this
pub GoesOnBy-line : (before now : Option (List Call)) (was waits : Waiting) (old new : Machine) (gathering : Gathering) (held : GroupLines) (taken text : Option (List ℕ)) → taken ≡ text
    → GoesOnBy before now was old ((gathered gathering (Comes taken)).1 ∷ []) waits new → IsHeld (gathered gathering (Comes taken)).0 held
    → GoesOnBy before now was old ((gathered gathering (Comes text)).1 ∷ []) waits new × IsHeld (gathered gathering (Comes text)).0 held
GoesOnBy-line before now was waits old new gathering held taken text is goes is_held =
    subst (λ t. GoesOnBy before now was old ((gathered gathering (Comes t)).1 ∷ []) waits new × IsHeld (gathered gathering (Comes t)).0 held) is (goes, is_held)

pub BreaksWithin-line : (fault : KeepFault) (before now : Option (List Call)) (was : Waiting) (old new : Machine) (gathering : Gathering) (taken text : Option (List ℕ)) → taken ≡ text
    → BreaksWithin fault before now was old ((gathered gathering (Comes taken)).1 ∷ []) new → BreaksWithin fault before now was old ((gathered gathering (Comes text)).1 ∷ []) new
BreaksWithin-line fault before now was old new gathering taken text is breaks =
    subst (λ t. BreaksWithin fault before now was old ((gathered gathering (Comes t)).1 ∷ []) new) is breaks

-- a line that is no head, where no group is open, was carried out by itself
pub GoesOnBy-alone : (before now : Option (List Call)) (was waits : Waiting) (old new : Machine) (gathering : Gathering) (held : GroupLines) (taken text : Option (List ℕ)) → taken ≡ text
    → gathering ≡ Closed → line_head taken ≡ None → IsHeld gathering held → GoesOnBy before now was old (line_request taken ∷ []) waits new
    → GoesOnBy before now was old ((gathered gathering (Comes text)).1 ∷ []) waits new × IsHeld (gathered gathering (Comes text)).0 held
GoesOnBy-alone before now was waits old new gathering held taken text is closed none is_held goes =
    let here = sym (gathered-alone gathering taken closed none) in
    GoesOnBy-line before now was waits old new gathering held taken text is
    (subst (λ h. GoesOnBy before now was old (h.1 ∷ []) waits new) here goes)
    (subst (λ h. IsHeld h.0 held) here (subst (λ g. IsHeld g held) closed is_held))

pub BreaksWithin-alone : (fault : KeepFault) (before now : Option (List Call)) (was : Waiting) (old new : Machine) (gathering : Gathering) (taken text : Option (List ℕ)) → taken ≡ text
    → gathering ≡ Closed → line_head taken ≡ None → BreaksWithin fault before now was old (line_request taken ∷ []) new
    → BreaksWithin fault before now was old ((gathered gathering (Comes text)).1 ∷ []) new
BreaksWithin-alone fault before now was old new gathering taken text is closed none breaks =
    BreaksWithin-line fault before now was old new gathering taken text is
    (subst (λ h. BreaksWithin fault before now was old (h.1 ∷ []) new) (sym (gathered-alone gathering taken closed none)) breaks)

-- ---- the end of the input

-- the last bytes were carried out as a line
pub GoesOnBy-last_line : (before now : Option (List Call)) (was waits : Waiting) (old new : Machine) (gathering : Gathering) (held : GroupLines) (taken : Option (List ℕ)) (bytes : List ℕ) → bytes ≢ []
    → taken ≡ line_text (record { bytes = bytes; ended = false })
    → GoesOnBy before now was old ((gathered gathering (Comes taken)).1 ∷ []) waits new → IsHeld (gathered gathering (Comes taken)).0 held
    → GoesOnBy before now was old (last_asked gathering bytes) waits new × IsHeld (last_left gathering bytes) held
GoesOnBy-last_line before now was waits old new gathering held taken [] some is goes is_held = absurd (some refl)
GoesOnBy-last_line before now was waits old new gathering held taken (b ∷ bytes) some is goes is_held =
    GoesOnBy-line before now was waits old new gathering held taken (line_text (record { bytes = b ∷ bytes; ended = false })) is goes is_held

pub BreaksWithin-last_line : (fault : KeepFault) (before now : Option (List Call)) (was : Waiting) (old new : Machine) (gathering : Gathering) (taken : Option (List ℕ)) (bytes : List ℕ) → bytes ≢ []
    → taken ≡ line_text (record { bytes = bytes; ended = false })
    → BreaksWithin fault before now was old ((gathered gathering (Comes taken)).1 ∷ []) new → BreaksWithin fault before now was old (last_asked gathering bytes) new
BreaksWithin-last_line fault before now was old new gathering taken [] some is breaks = absurd (some refl)
BreaksWithin-last_line fault before now was old new gathering taken (b ∷ bytes) some is breaks =
    BreaksWithin-line fault before now was old new gathering taken (line_text (record { bytes = b ∷ bytes; ended = false })) is breaks

-- what the end of the input asks behind the last bytes
abbrev pub end_asked : Gathering → List ℕ → Request
end_asked gathering bytes = (gathered (last_left gathering bytes) Ends).1

-- the last bytes and the end were carried out, and then what waits was kept
pub GoesOnBy-end : (c0 c1 c2 c3 : Option (List Call)) (was between waits kept : Waiting) (old new : Machine) (gathering : Gathering) (bytes : List ℕ)
    → GoesOnBy c0 c1 was old (last_asked gathering bytes) between new → GoesOnBy c1 c2 between new (end_asked gathering bytes ∷ []) waits new → Stays c2 c3 waits kept
    → GoesOnBy c0 c3 was old (asked_at_end gathering bytes) kept new
GoesOnBy-end c0 c1 c2 c3 was between waits kept old new gathering bytes goes ends stays =
    subst (λ l. GoesOnBy c0 c3 was old l kept new) (sym (asked_at_end-parts gathering bytes))
    (GoesOnBy-kept c0 c2 c3 was waits kept old new (last_asked gathering bytes ++ end_asked gathering bytes ∷ [])
    (GoesOnBy-trans c0 c1 c2 was between waits old new new (last_asked gathering bytes) (end_asked gathering bytes ∷ []) goes ends) stays)

-- it broke off as that was to be kept
pub BreaksWithin-end_kept : (fault : KeepFault) (c0 c1 c2 c3 : Option (List Call)) (was between waits : Waiting) (old new : Machine) (gathering : Gathering) (bytes : List ℕ)
    → GoesOnBy c0 c1 was old (last_asked gathering bytes) between new → GoesOnBy c1 c2 between new (end_asked gathering bytes ∷ []) waits new → Breaks fault c2 c3 waits
    → BreaksWithin fault c0 c3 was old (asked_at_end gathering bytes) new
BreaksWithin-end_kept fault c0 c1 c2 c3 was between waits old new gathering bytes goes ends breaks =
    subst (λ l. BreaksWithin fault c0 c3 was old l new) (sym (asked_at_end-parts gathering bytes))
    (BreaksWithin-kept fault c0 c2 c3 was waits old new (last_asked gathering bytes ++ end_asked gathering bytes ∷ [])
    (GoesOnBy-trans c0 c1 c2 was between waits old new new (last_asked gathering bytes) (end_asked gathering bytes ∷ []) goes ends) breaks)

-- it broke off within the last bytes
pub BreaksWithin-last : (fault : KeepFault) (before now : Option (List Call)) (was : Waiting) (old new : Machine) (gathering : Gathering) (bytes : List ℕ)
    → BreaksWithin fault before now was old (last_asked gathering bytes) new → BreaksWithin fault before now was old (asked_at_end gathering bytes) new
BreaksWithin-last fault before now was old new gathering bytes breaks =
    subst (λ l. BreaksWithin fault before now was old l new) (sym (asked_at_end-parts gathering bytes))
    (BreaksWithin-first fault before now was old new (last_asked gathering bytes) (end_asked gathering bytes ∷ []) breaks)

-- it broke off within the end
pub BreaksWithin-end : (fault : KeepFault) (before mid now : Option (List Call)) (was between : Waiting) (old new : Machine) (gathering : Gathering) (bytes : List ℕ)
    → GoesOnBy before mid was old (last_asked gathering bytes) between new → BreaksWithin fault mid now between new (end_asked gathering bytes ∷ []) new
    → BreaksWithin fault before now was old (asked_at_end gathering bytes) new
BreaksWithin-end fault before mid now was between old new gathering bytes goes breaks =
    subst (λ l. BreaksWithin fault before now was old l new) (sym (asked_at_end-parts gathering bytes))
    (BreaksWithin-then fault before mid now was between old new new (last_asked gathering bytes) (end_asked gathering bytes ∷ []) goes breaks)
