-- From read to read of a session that is kept.
use Rattle.std.proofs.Common.{◌≡◌, ℕ, true, false, inl, List, [], ◌∷◌, ◌++◌, Option, refl, sym, ap, ◌∙◌, subst, append_assoc, append-nil}
use Rattle.std.proofs.KnownBytes.{Consumes-nil, Consumes-trans, Consumes-kept}
use Rattle.std.specs.Io.KnownBytes.{Consumes, Keeps, IsAtEnd}
use Rattle.sf_text_lines.specs.Lines.{lines_of, IsWhole}
use Rattle.sf_text_lines.specs.Buffers.{IsBufferOf}
use Rattle.sf_text_lines.proofs.LineLemmas.{IsWhole-append}
use Rattle.sf_text_lines.proofs.BufferLemmas.{IsBufferOf-nothing}
use Rattle.sf_journal.specs.Records.{records, line_of, sum_with, sum_behind}
use Rattle.sf_console.specs.History.{Machine}
use Rattle.sf_console.specs.declared.group_lines.GroupLines.{GroupLines}
use Rattle.sf_console.specs.declared.group_lines.GroupLines.TheVariants as lines
use Rattle.sf_console.specs.Requests.{Closed, Ends, Request, come, left_in, requests_from, requests_in, requests_of, whole_lines_come, whole_requests_of}
use Rattle.sf_console.specs.Gatherings.{IsHeld}
use Rattle.sf_console.proofs.ReadingLemmas.{left_in-whole}
use Rattle.sf_keeping.specs.declared.desk.KeepFault.{KeepFault}
use Rattle.sf_keeping.specs.declared.desk.KeepFault.TheVariants.{Journal, Memory, Read, Write}
use Rattle.sf_keeping.specs.Desks.{Call, Makes, nothing_yet, after_calls}
use Rattle.sf_keeping.specs.Waiting.{Waiting, nothing_waits}
use Rattle.sf_keeping.specs.Inputs.{Ahead, with_new_line}
use Rattle.sf_keeping.specs.Kept.{Keeps as KeepsOf}
use Rattle.sf_keeping.specs.Saves.{AskForNone}
use Rattle.sf_keeping.specs.Moments.{AtEachMoment}
use Rattle.sf_keeping.specs.Underway.{IsUnderway, Stays, BrokeBy, Breaks, BreaksWithin, TakesLines, TakesSave, BreaksLines, KeepsOn, Finishes, asked_at_end}
use Rattle.sf_keeping.specs.Serving.{ServesKept, EndBy, EndsKept, requests_before}
use Rattle.sf_keeping.specs.declared.keeping.Stop.{Stop}
use Rattle.sf_keeping.specs.declared.keeping.Stop.TheVariants.{Save, End}
use Rattle.sf_keeping.proofs.KeptLaws.{Keeps-append}
use Rattle.sf_keeping.proofs.RequestLaws.{AskForNone-append, AskForNone-front, requests_from-first, requests_in-whole, requests_of-end, requests_of-whole, whole_requests_of-whole}
use Rattle.sf_keeping.proofs.Underways.{Underway-start}

-- nothing was read
pub KeepsOn-start : (unread : Option (List ℕ)) (calls : Option (List Call)) (sum : ℕ) (old : Machine) (input next : Ahead)
    → next ≡ with_new_line input → Consumes unread unread [] → KeepsOn unread unread input.rest lines.Closed calls calls sum old next (nothing_waits sum) old
KeepsOn-start unread calls sum old input next is consumed =
    record {
      taken = [];
      consumed = consumed;
      finished = [];
      after = [];
      parts = append-nil input.rest ∙ ap (λ a. a.rest) (sym is);
      whole = inl refl;
      unfed = refl;
      is_buffer = subst (IsBufferOf []) (ap (λ a. a.begun) (sym is)) IsBufferOf-nothing;
      is_held = tt;
      ask_for_none = tt;
      underway = Underway-start calls sum old;
    }

-- what is asked at first, and what comes behind it
asked_first : (bytes finished after rest : List ℕ) → bytes ≡ (finished ++ after) ++ rest → IsWhole finished
    → requests_of bytes ≡ requests_in Closed finished ++ requests_from (left_in Closed finished) (come (lines_of (after ++ rest)) ++ Ends ∷ [])
asked_first bytes finished after rest parts whole = ap requests_of (parts ∙ append_assoc finished after rest) ∙ requests_of-whole finished (after ++ rest) whole

-- the lines were carried out that end in what was read
pub KeepsOn-lines : (unread left : Option (List ℕ)) (ahead : List ℕ) (held held' : GroupLines) (start c1 c2 : Option (List Call)) (sum : ℕ) (old mid new : Machine) (input next : Ahead) (was waits : Waiting)
    → (p : KeepsOn unread left ahead held start c1 sum old input was mid) → TakesLines p.after input.rest (left_in Closed p.finished) held' c1 c2 was mid next waits new
    → KeepsOn unread left ahead held' start c2 sum old next waits new
KeepsOn-lines unread left ahead held held' start c1 c2 sum old mid new input next was waits p t =
    let behind = left_in Closed p.finished in
    let asked : requests_in Closed (p.finished ++ t.finished) ≡ requests_in Closed p.finished ++ requests_in behind t.finished = requests_in-whole Closed p.finished t.finished p.whole in
    record {
      taken = p.taken;
      consumed = p.consumed;
      finished = p.finished ++ t.finished;
      after = t.after;
      parts = p.parts ∙ append_assoc p.finished p.after input.rest ∙ ap (λ l. p.finished ++ l) t.parts ∙ regroup p.finished t.finished t.after next.rest;
      whole = IsWhole-append p.finished t.finished p.whole t.whole;
      unfed = t.unfed;
      is_buffer = t.is_buffer;
      is_held = subst (λ g. IsHeld g held') (sym (left_in-whole Closed p.finished t.finished p.whole)) t.is_held;
      ask_for_none = subst AskForNone (sym asked) (AskForNone-append (requests_in Closed p.finished) (requests_in behind t.finished) p.ask_for_none t.ask_for_none);
      underway = subst (λ l. IsUnderway start c2 sum old l waits new) (sym asked) (t.goes_on start sum old (requests_in Closed p.finished) p.underway);
    }
  where
    regroup : (xs ys zs ws : List ℕ) → xs ++ ((ys ++ zs) ++ ws) ≡ ((xs ++ ys) ++ zs) ++ ws
    regroup xs ys zs ws = simp append_assoc

-- what waited was kept
pub KeepsOn-kept : (unread left : Option (List ℕ)) (ahead : List ℕ) (held : GroupLines) (start c1 c2 : Option (List Call)) (sum : ℕ) (old new : Machine) (input : Ahead) (was waits : Waiting)
    → KeepsOn unread left ahead held start c1 sum old input was new → Stays c1 c2 was waits → KeepsOn unread left ahead held start c2 sum old input waits new
KeepsOn-kept unread left ahead held start c1 c2 sum old new input was waits p stays =
    record {
      taken = p.taken;
      consumed = p.consumed;
      finished = p.finished;
      after = p.after;
      parts = p.parts;
      whole = p.whole;
      unfed = p.unfed;
      is_buffer = p.is_buffer;
      is_held = p.is_held;
      ask_for_none = p.ask_for_none;
      underway = stays start sum old (requests_in Closed p.finished) new p.underway;
    }

-- more was read
pub KeepsOn-filled : (unread left more : Option (List ℕ)) (ahead : List ℕ) (held : GroupLines) (start c : Option (List Call)) (sum : ℕ) (old new : Machine) (input next : Ahead) (waits : Waiting)
    → KeepsOn unread left ahead held start c sum old input waits new → input.rest ≡ [] → Consumes left more next.rest → next.begun ≡ input.begun
    → KeepsOn unread more ahead held start c sum old next waits new
KeepsOn-filled unread left more ahead held start c sum old new input next waits p empty consumes same =
    record {
      taken = p.taken ++ next.rest;
      consumed = Consumes-trans unread left more p.taken next.rest p.consumed consumes;
      finished = p.finished;
      after = p.after;
      parts = sym (append_assoc ahead p.taken next.rest) ∙ ap (λ l. l ++ next.rest) (p.parts ∙ ap (λ l. (p.finished ++ p.after) ++ l) empty ∙ append-nil (p.finished ++ p.after));
      whole = p.whole;
      unfed = p.unfed;
      is_buffer = subst (IsBufferOf p.after) (sym same) p.is_buffer;
      is_held = p.is_held;
      ask_for_none = p.ask_for_none;
      underway = p.underway;
    }

-- what broke off by a fault ends so
ended-by : (fault : KeepFault) (sum : ℕ) (old : Machine) (asked : List Request) (calls : List Call) (new : Machine) → BrokeBy fault calls → EndBy fault sum old asked calls new
ended-by Read sum old asked calls new none = absurd none
ended-by Memory sum old asked calls new by = by
ended-by Journal sum old asked calls new by = by
ended-by Write sum old asked calls new by = by

-- and then the last line may be asked as well
all-before : (fault : KeepFault) (calls : List Call) (bytes : List ℕ) → BrokeBy fault calls → requests_before fault bytes ≡ requests_of bytes
all-before Read calls bytes none = absurd none
all-before Memory calls bytes by = refl
all-before Journal calls bytes by = refl
all-before Write calls bytes by = refl

-- it ended within what is asked at the end of the input
pub EndsKept-at : (fault : KeepFault) (unread left : Option (List ℕ)) (ahead : List ℕ) (held : GroupLines) (start c1 c2 : Option (List Call)) (sum : ℕ) (old mid new : Machine) (input : Ahead) (was : Waiting)
    → (p : KeepsOn unread left ahead held start c1 sum old input was mid) → input.rest ≡ [] → AskForNone (asked_at_end (left_in Closed p.finished) p.after)
    → BreaksWithin fault c1 c2 was mid (asked_at_end (left_in Closed p.finished) p.after) new → EndsKept fault unread left ahead start c2 sum old new
EndsKept-at fault unread left ahead held start c1 c2 sum old mid new input was p empty none breaks =
    let asked = requests_in Closed p.finished in
    let found = breaks start sum old asked p.underway in
    record {
      taken = p.taken;
      consumed = p.consumed;
      asked = asked ++ found.0;
      later = found.1;
      first = all-before fault found.3.calls (ahead ++ p.taken) found.3.told
          ∙ ap requests_of (p.parts ∙ ap (λ l. (p.finished ++ p.after) ++ l) empty ∙ append-nil (p.finished ++ p.after)) ∙ requests_of-end p.finished p.after p.whole p.unfed
          ∙ ap (λ l. asked ++ l) found.2 ∙ sym (append_assoc asked found.0 found.1);
      ask_for_none = AskForNone-append asked found.0 p.ask_for_none (AskForNone-front found.0 found.1 (subst AskForNone found.2 none));
      calls = found.3.calls;
      makes = found.3.makes;
      moments = found.3.moments;
      ended = ended-by fault sum old (asked ++ found.0) found.3.calls new found.3.told;
    }

-- what comes behind the lines that were carried out
abbrev comes_later : List ℕ → List ℕ → List Request
comes_later finished rest = requests_from (left_in Closed finished) (come (lines_of rest) ++ Ends ∷ [])

-- it ended before a line more
pub EndsKept-before : (fault : KeepFault) (unread left : Option (List ℕ)) (ahead : List ℕ) (held : GroupLines) (start c1 c2 : Option (List Call)) (sum : ℕ) (old new : Machine) (input : Ahead) (was : Waiting)
    → KeepsOn unread left ahead held start c1 sum old input was new → Breaks fault c1 c2 was → EndsKept fault unread left ahead start c2 sum old new
EndsKept-before fault unread left ahead held start c1 c2 sum old new input was p breaks =
    let b = breaks start sum old (requests_in Closed p.finished) new p.underway in
    record {
      taken = p.taken;
      consumed = p.consumed;
      asked = requests_in Closed p.finished;
      later = comes_later p.finished (p.after ++ input.rest);
      first = all-before fault b.calls (ahead ++ p.taken) b.told ∙ asked_first (ahead ++ p.taken) p.finished p.after input.rest p.parts p.whole;
      ask_for_none = p.ask_for_none;
      calls = b.calls;
      makes = b.makes;
      moments = b.moments;
      ended = ended-by fault sum old (requests_in Closed p.finished) b.calls new b.told;
    }

-- it ended within the lines that end in what was read
pub EndsKept-within : (fault : KeepFault) (unread left : Option (List ℕ)) (ahead : List ℕ) (held : GroupLines) (start c1 c2 : Option (List Call)) (sum : ℕ) (old mid new : Machine) (input : Ahead) (was : Waiting)
    → (p : KeepsOn unread left ahead held start c1 sum old input was mid) → BreaksLines fault p.after input.rest (left_in Closed p.finished) c1 c2 was mid new
    → EndsKept fault unread left ahead start c2 sum old new
EndsKept-within fault unread left ahead held start c1 c2 sum old mid new input was p breaks =
    let asked = requests_in Closed p.finished in
    let behind = left_in Closed p.finished in
    let b = breaks start sum old asked p.underway in
    let found = b.parts [] in
    let end = requests_from-first behind (p.after ++ input.rest) in
    record {
      taken = p.taken;
      consumed = p.consumed;
      asked = asked ++ b.done;
      later = found.0 ++ end.0;
      first = all-before fault b.broke.calls (ahead ++ p.taken) b.broke.told ∙ asked_first (ahead ++ p.taken) p.finished p.after input.rest p.parts p.whole
          ∙ ap (λ l. asked ++ l) (end.1 ∙ ap (λ l. l ++ end.0) (ap (requests_in behind) (sym (append-nil (p.after ++ input.rest))) ∙ found.1))
          ∙ regroup asked b.done found.0 end.0;
      ask_for_none = AskForNone-append asked b.done p.ask_for_none b.ask_for_none;
      calls = b.broke.calls;
      makes = b.broke.makes;
      moments = b.broke.moments;
      ended = ended-by fault sum old (asked ++ b.done) b.broke.calls new b.broke.told;
    }
  where
    regroup : (xs ys zs ws : List Request) → xs ++ ((ys ++ zs) ++ ws) ≡ (xs ++ ys) ++ (zs ++ ws)
    regroup xs ys zs ws = simp append_assoc

-- records of no bytes are of no text
no_texts : (sum : ℕ) (texts : List (List ℕ)) → [] ≡ records sum texts → texts ≡ []
no_texts sum [] none = refl
no_texts sum (text ∷ texts) none = absurd (some (line_of sum text) (records (sum_with sum text) texts) none)
  where
    some : (xs ys : List ℕ) → [] ≡ (xs ++ 10 ∷ []) ++ ys → ⊥
    some [] ys h = cc
    some (x ∷ xs) ys h = cc

-- where nothing waits, all of it stands
pub record Stands (start now : Option (List Call)) (sum : ℕ) (old : Machine) (asked : List Request) (behind : ℕ) (new : Machine) : Type 0 where
  pub output : List ℕ
  pub texts : List (List ℕ)
  pub ran : KeepsOf old asked output texts new
  pub calls : List Call
  pub makes : Makes start now calls
  pub moments : AtEachMoment sum old asked new calls
  pub standing : after_calls nothing_yet calls ≡ record { kept = records sum texts; waiting = []; answered = output; broken = false }
  pub behind_all : behind ≡ sum_behind sum texts

pub Underway-whole : (start now : Option (List Call)) (sum : ℕ) (old : Machine) (asked : List Request) (waits : Waiting) (new : Machine)
    → IsUnderway start now sum old asked waits new → waits ≡ nothing_waits waits.sum → Stands start now sum old asked waits.sum new
Underway-whole start now sum old asked waits new u none =
    let no_later : u.later ≡ [] = no_texts (sum_behind sum u.texts) u.later (ap (λ w. w.records) (sym none ∙ u.waits)) in
    let no_answers : [] ≡ u.answers = ap (λ w. w.answers) (sym none ∙ u.waits) in
    let texts : u.texts ++ u.later ≡ u.texts = ap (λ l. u.texts ++ l) no_later ∙ append-nil u.texts in
    let output : u.output ++ u.answers ≡ u.output = ap (λ l. u.output ++ l) (sym no_answers) ∙ append-nil u.output in
    record {
      output = u.output;
      texts = u.texts;
      ran = subst (λ t. KeepsOf old asked u.output t new) texts (subst (λ o. KeepsOf old asked o (u.texts ++ u.later) new) output
          (subst (λ l. KeepsOf old l (u.output ++ u.answers) (u.texts ++ u.later) new) (sym u.parts) (Keeps-append old u.mid new u.done u.since u.output u.answers u.texts u.later u.did u.does)));
      calls = u.calls;
      makes = u.makes;
      moments = u.moments;
      standing = u.standing;
      behind_all = ap (λ w. w.sum) u.waits ∙ ap (sum_behind (sum_behind sum u.texts)) no_later;
    }

-- it ended as no more could be read: nothing waits then
pub EndsKept-unread : (unread left more : Option (List ℕ)) (ahead : List ℕ) (held : GroupLines) (start c : Option (List Call)) (sum : ℕ) (old new : Machine) (input : Ahead) (waits : Waiting)
    → KeepsOn unread left ahead held start c sum old input waits new → waits ≡ nothing_waits waits.sum → Keeps left more → EndsKept Read unread more ahead start c sum old new
EndsKept-unread unread left more ahead held start c sum old new input waits p none keeps =
    let s = Underway-whole start c sum old (requests_in Closed p.finished) waits new p.underway none in
    record {
      taken = p.taken;
      consumed = Consumes-kept unread left more p.taken p.consumed keeps;
      asked = requests_in Closed p.finished;
      later = requests_from (left_in Closed p.finished) (whole_lines_come (p.after ++ input.rest));
      first = ap whole_requests_of (p.parts ∙ append_assoc p.finished p.after input.rest) ∙ whole_requests_of-whole p.finished (p.after ++ input.rest) p.whole;
      ask_for_none = p.ask_for_none;
      calls = s.calls;
      makes = s.makes;
      moments = s.moments;
      ended = (s.output, s.texts, s.ran, s.standing);
    }

-- what was asked before a line that asks for a save
save_whole : (unread left : Option (List ℕ)) (ahead : List ℕ) (held : GroupLines) (start c1 c2 : Option (List Call)) (sum : ℕ) (old mid new : Machine) (input next : Ahead) (was waits : Waiting)
    → (p : KeepsOn unread left ahead held start c1 sum old input was mid) → (t : TakesSave p.after input.rest (left_in Closed p.finished) c1 c2 was mid next waits new)
    → IsUnderway start c2 sum old (requests_in Closed (p.finished ++ t.finished)) waits new
save_whole unread left ahead held start c1 c2 sum old mid new input next was waits p t =
    subst (λ l. IsUnderway start c2 sum old l waits new) (sym (requests_in-whole Closed p.finished t.finished p.whole)) (t.goes_on start sum old (requests_in Closed p.finished) p.underway)

save_for_none : (unread left : Option (List ℕ)) (ahead : List ℕ) (held : GroupLines) (start c1 c2 : Option (List Call)) (sum : ℕ) (old mid new : Machine) (input next : Ahead) (was waits : Waiting)
    → (p : KeepsOn unread left ahead held start c1 sum old input was mid) → (t : TakesSave p.after input.rest (left_in Closed p.finished) c1 c2 was mid next waits new)
    → AskForNone (requests_in Closed (p.finished ++ t.finished))
save_for_none unread left ahead held start c1 c2 sum old mid new input next was waits p t =
    subst AskForNone (sym (requests_in-whole Closed p.finished t.finished p.whole))
    (AskForNone-append (requests_in Closed p.finished) (requests_in (left_in Closed p.finished) t.finished) p.ask_for_none t.ask_for_none)

-- a save is asked for
pub ServesKept-save : (unread left : Option (List ℕ)) (ahead : List ℕ) (held : GroupLines) (start c1 c2 c3 : Option (List Call)) (sum : ℕ) (old mid new : Machine) (input next : Ahead) (was waits kept : Waiting)
    → (p : KeepsOn unread left ahead held start c1 sum old input was mid) → TakesSave p.after input.rest (left_in Closed p.finished) c1 c2 was mid next waits new
    → Stays c2 c3 waits kept → kept ≡ nothing_waits waits.sum
    → ServesKept Save unread left ahead next.rest start c3 sum kept.sum old new
ServesKept-save unread left ahead held start c1 c2 c3 sum old mid new input next was waits kept p t stays none =
    let finished = p.finished ++ t.finished in
    let asked = requests_in Closed finished in
    let u = stays start sum old asked new (save_whole unread left ahead held start c1 c2 sum old mid new input next was waits p t) in
    let s = Underway-whole start c3 sum old asked kept new u (none ∙ ap nothing_waits (ap (λ w. w.sum) (sym none))) in
    record {
      taken = p.taken;
      consumed = p.consumed;
      asked = asked;
      reached = (
        finished,
        record { bytes = t.line; ended = true },
        p.parts ∙ append_assoc p.finished p.after input.rest ∙ ap (λ l. p.finished ++ l) t.parts ∙ regroup p.finished t.finished (t.line ++ 10 ∷ []) next.rest,
        IsWhole-append p.finished t.finished p.whole t.whole,
        t.unfed,
        t.is_save,
        left_in-whole Closed p.finished t.finished p.whole ∙ t.is_closed,
        refl,
        λ unended. absurd (not_ended unended),
      );
      ask_for_none = save_for_none unread left ahead held start c1 c2 sum old mid new input next was waits p t;
      output = s.output;
      texts = s.texts;
      ran = s.ran;
      calls = s.calls;
      makes = s.makes;
      moments = s.moments;
      standing = s.standing;
      behind_all = s.behind_all;
    }
  where
    regroup : (xs ys zs ws : List ℕ) → xs ++ ((ys ++ zs) ++ ws) ≡ ((xs ++ ys) ++ zs) ++ ws
    regroup xs ys zs ws = simp append_assoc

    not_ended : true ≡ false → ⊥
    not_ended h = cc

-- what waited before it could not be kept
pub ServesKept-save-broken : (fault : KeepFault) (unread left : Option (List ℕ)) (ahead : List ℕ) (held : GroupLines) (start c1 c2 c3 : Option (List Call)) (sum : ℕ) (old mid new : Machine) (input next : Ahead) (was waits : Waiting)
    → (p : KeepsOn unread left ahead held start c1 sum old input was mid) → TakesSave p.after input.rest (left_in Closed p.finished) c1 c2 was mid next waits new
    → Breaks fault c2 c3 waits → EndsKept fault unread left ahead start c3 sum old new
ServesKept-save-broken fault unread left ahead held start c1 c2 c3 sum old mid new input next was waits p t breaks =
    let finished = p.finished ++ t.finished in
    let asked = requests_in Closed finished in
    let b = breaks start sum old asked new (save_whole unread left ahead held start c1 c2 sum old mid new input next was waits p t) in
    let rest = (t.line ++ 10 ∷ []) ++ next.rest in
    record {
      taken = p.taken;
      consumed = p.consumed;
      asked = asked;
      later = comes_later finished rest;
      first = all-before fault b.calls (ahead ++ p.taken) b.told
          ∙ ap requests_of (p.parts ∙ append_assoc p.finished p.after input.rest ∙ ap (λ l. p.finished ++ l) t.parts ∙ regroup p.finished t.finished (t.line ++ 10 ∷ []) next.rest)
          ∙ requests_of-whole finished rest (IsWhole-append p.finished t.finished p.whole t.whole);
      ask_for_none = save_for_none unread left ahead held start c1 c2 sum old mid new input next was waits p t;
      calls = b.calls;
      makes = b.makes;
      moments = b.moments;
      ended = ended-by fault sum old asked b.calls new b.told;
    }
  where
    regroup : (xs ys zs ws : List ℕ) → xs ++ ((ys ++ zs) ++ ws) ≡ (xs ++ ys) ++ (zs ++ ws)
    regroup xs ys zs ws = simp append_assoc

-- the input ended
pub ServesKept-finish : (unread left : Option (List ℕ)) (ahead : List ℕ) (held : GroupLines) (start c1 c2 : Option (List Call)) (sum : ℕ) (old mid new : Machine) (input : Ahead) (was waits : Waiting) (stop : Stop)
    → (p : KeepsOn unread left ahead held start c1 sum old input was mid) → input.rest ≡ [] → IsAtEnd left → Finishes stop p.after (left_in Closed p.finished) c1 c2 was mid waits new
    → ServesKept stop unread left ahead input.rest start c2 sum waits.sum old new
ServesKept-finish unread left ahead held start c1 c2 sum old mid new input was waits End p empty at_end (none, nothing, goes) =
    let asked = requests_in Closed p.finished in
    let last = asked_at_end (left_in Closed p.finished) p.after in
    let bytes : ahead ++ p.taken ≡ p.finished ++ p.after = p.parts ∙ ap (λ l. (p.finished ++ p.after) ++ l) empty ∙ append-nil (p.finished ++ p.after) in
    let s = Underway-whole start c2 sum old (asked ++ last) waits new (goes start sum old asked p.underway) nothing in
    record {
      taken = p.taken;
      consumed = p.consumed;
      asked = asked ++ last;
      reached = (sym (ap requests_of bytes ∙ requests_of-end p.finished p.after p.whole p.unfed), empty, at_end);
      ask_for_none = AskForNone-append asked last p.ask_for_none none;
      output = s.output;
      texts = s.texts;
      ran = s.ran;
      calls = s.calls;
      makes = s.makes;
      moments = s.moments;
      standing = s.standing;
      behind_all = s.behind_all;
    }
ServesKept-finish unread left ahead held start c1 c2 sum old mid new input was waits Save p empty at_end (saves, closed, nothing, goes) =
    let asked = requests_in Closed p.finished in
    let u = subst (λ l. IsUnderway start c2 sum old l waits new) (append-nil asked) (goes start sum old asked p.underway) in
    let s = Underway-whole start c2 sum old asked waits new u nothing in
    record {
      taken = p.taken;
      consumed = p.consumed;
      asked = asked;
      reached = (
        p.finished,
        record { bytes = p.after; ended = false },
        p.parts ∙ ap (λ l. (p.finished ++ l) ++ input.rest) (sym (append-nil p.after)),
        p.whole,
        p.unfed,
        saves,
        closed,
        refl,
        λ unended. (empty, at_end),
      );
      ask_for_none = p.ask_for_none;
      output = s.output;
      texts = s.texts;
      ran = s.ran;
      calls = s.calls;
      makes = s.makes;
      moments = s.moments;
      standing = s.standing;
      behind_all = s.behind_all;
    }

-- no memory was found before anything was done
pub EndsKept-none : (unread : Option (List ℕ)) (ahead : List ℕ) (start : Option (List Call)) (sum : ℕ) (old : Machine) → EndsKept Memory unread unread ahead start start sum old old
EndsKept-none unread ahead start sum old =
    let u = Underway-start start sum old in
    record {
      taken = [];
      consumed = Consumes-nil unread;
      asked = [];
      later = requests_of (ahead ++ []);
      first = refl;
      ask_for_none = tt;
      calls = u.calls;
      makes = u.makes;
      moments = u.moments;
      ended = ap (λ standing. standing.broken) u.standing;
    }
