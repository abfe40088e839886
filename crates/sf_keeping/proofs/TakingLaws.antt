-- From line to line of what was read.
use Rattle.std.proofs.Common.{◌≡◌, ◌↔◌, ℕ, Bool, true, false, IsTrue, inl, List, [], ◌∷◌, ◌++◌, Option, refl, sym, ap, ◌∙◌, subst, append_assoc, append-nil}
use Rattle.sf_text_lines.specs.Lines.{text_of, IsWhole, HasNoFeed}
use Rattle.sf_text_lines.specs.Buffers.{IsBufferOf}
use Rattle.sf_text_lines.proofs.LineLemmas.{IsWhole-append, IsWhole-fed, HasNoFeed-append}
use Rattle.sf_text_lines.proofs.BufferLemmas.{IsBufferOf-extend, IsBufferOf-nothing}
use Rattle.sf_console.specs.History.{Machine}
use Rattle.sf_console.specs.declared.group_lines.GroupLines.{GroupLines}
use Rattle.sf_console.specs.Requests.{Closed, Gathering, Request, left_in, requests_in}
use Rattle.sf_console.specs.Gatherings.{IsHeld}
use Rattle.sf_console.proofs.ReadingLemmas.{left_in-fed, left_in-whole}
use Rattle.sf_keeping.specs.declared.desk.KeepFault.{KeepFault}
use Rattle.sf_keeping.specs.Desks.{Call}
use Rattle.sf_keeping.specs.Waiting.{Waiting}
use Rattle.sf_keeping.specs.Inputs.{Ahead, EndsLine, GoesOn, with_new_line}
use Rattle.sf_keeping.specs.Saves.{is_save, AskForNone}
use Rattle.sf_keeping.specs.Underway.{BrokeOff, GoesOnBy, BreaksWithin, TakesLines, TakesSave, BreaksLines, gathered_by}
use Rattle.sf_keeping.proofs.KeepingLaws.{GoesOnBy-none, GoesOnBy-trans}
use Rattle.sf_keeping.proofs.RequestLaws.{AskForNone-append, AskForNone-front, line-no-save, requests_in-more, requests_in-whole}

pub TakesLines-start : (before : List ℕ) (gathering : Gathering) (held : GroupLines) (calls : Option (List Call)) (was : Waiting) (old : Machine) (ahead : Ahead)
    → IsBufferOf before ahead.begun → HasNoFeed before → IsHeld gathering held → TakesLines before ahead.rest gathering held calls calls was old ahead was old
TakesLines-start before gathering held calls was old ahead is_buffer unfed is_held =
    record {
      finished = [];
      after = before;
      parts = refl;
      whole = inl refl;
      unfed = unfed;
      is_buffer = is_buffer;
      is_held = is_held;
      ask_for_none = tt;
      goes_on = GoesOnBy-none calls was old;
    }

-- the bytes of a line and what follows it
line_parts : (finished after front rest : List ℕ) → (finished ++ after) ++ ((front ++ 10 ∷ []) ++ rest) ≡ (finished ++ ((after ++ front) ++ 10 ∷ [])) ++ rest
line_parts finished after front rest = simp append_assoc

-- the text of a line that ends
abbrev pub ended_text : List ℕ → List ℕ
ended_text bytes = text_of (record { bytes = bytes; ended = true })

-- a line that ends is no save, where none of it could be
abbrev pub IsNoSave : Gathering → List ℕ → Type 0
IsNoSave gathering bytes = gathering ≡ Closed → is_save (ended_text bytes) ≡ false

-- a group is open
pub not-closed : (gathering : Gathering) (closed : Bool) {P : Type 0} → IsTrue closed ↔ (gathering ≡ Closed) → closed ≡ false → gathering ≡ Closed → P
not-closed gathering closed says none is = absurd (no (says.1 is))
  where
    no : IsTrue closed → ⊥
    no h = cc

no-save : (gathering : Gathering) (bytes : List ℕ) → IsNoSave gathering bytes → AskForNone ((gathered_by gathering bytes).1 ∷ [])
no-save gathering bytes none = (line-no-save gathering (record { bytes = bytes; ended = true }) none, tt)

-- what is left of a group behind whole bytes and one line more
left_in-more : (gathering : Gathering) (xs line : List ℕ) → IsWhole xs → HasNoFeed line → left_in gathering (xs ++ (line ++ 10 ∷ [])) ≡ (gathered_by (left_in gathering xs) line).0
left_in-more gathering xs line whole unfed = left_in-whole gathering xs (line ++ 10 ∷ []) whole ∙ left_in-fed (left_in gathering xs) line unfed

-- one more line was carried out
pub TakesLines-line : (before rest : List ℕ) (gathering : Gathering) (held held' : GroupLines) (c0 c1 c2 : Option (List Call)) (was waits next : Waiting) (old mid new : Machine) (ahead ended_ahead last_ahead : Ahead)
    → (t : TakesLines before rest gathering held c0 c1 was old ahead waits mid) → (e : EndsLine ahead ended_ahead)
    → IsNoSave (left_in gathering t.finished) (t.after ++ e.front)
    → GoesOnBy c1 c2 waits mid ((gathered_by (left_in gathering t.finished) (t.after ++ e.front)).1 ∷ []) next new
    → IsHeld (gathered_by (left_in gathering t.finished) (t.after ++ e.front)).0 held'
    → last_ahead ≡ with_new_line ended_ahead
    → TakesLines before rest gathering held' c0 c2 was old last_ahead next new
TakesLines-line before rest gathering held held' c0 c1 c2 was waits next old mid new ahead ended_ahead last_ahead t e none goes is_held is =
    let line = t.after ++ e.front in
    let behind = left_in gathering t.finished in
    let one = (gathered_by behind line).1 ∷ [] in
    let unfed : HasNoFeed line = HasNoFeed-append t.after e.front t.unfed e.unfed in
    let asked : requests_in gathering (t.finished ++ (line ++ 10 ∷ [])) ≡ requests_in gathering t.finished ++ one = requests_in-more gathering t.finished line t.whole unfed in
    record {
      finished = t.finished ++ (line ++ 10 ∷ []);
      after = [];
      parts =
          t.parts ∙ ap (λ l. (t.finished ++ t.after) ++ l) e.parts ∙ line_parts t.finished t.after e.front ended_ahead.rest
          ∙ ap (λ l. l ++ ended_ahead.rest) (sym (append-nil (t.finished ++ (line ++ 10 ∷ []))))
          ∙ ap (λ l. ((t.finished ++ (line ++ 10 ∷ [])) ++ []) ++ l) (ap (λ a. a.rest) (sym is));
      whole = IsWhole-append t.finished (line ++ 10 ∷ []) t.whole (IsWhole-fed line);
      unfed = refl;
      is_buffer = subst (IsBufferOf []) (ap (λ a. a.begun) (sym is)) IsBufferOf-nothing;
      is_held = subst (λ g. IsHeld g held') (sym (left_in-more gathering t.finished line t.whole unfed)) is_held;
      ask_for_none = subst AskForNone (sym asked) (AskForNone-append (requests_in gathering t.finished) one t.ask_for_none (no-save behind line none));
      goes_on = subst (λ l. GoesOnBy c0 c2 was old l next new) (sym asked)
          (GoesOnBy-trans c0 c1 c2 was waits next old mid new (requests_in gathering t.finished) one t.goes_on goes);
    }

-- what was read has no further line
pub TakesLines-rest : (before rest : List ℕ) (gathering : Gathering) (held : GroupLines) (c0 c1 : Option (List Call)) (was waits : Waiting) (old new : Machine) (ahead next : Ahead)
    → TakesLines before rest gathering held c0 c1 was old ahead waits new → GoesOn ahead next → TakesLines before rest gathering held c0 c1 was old next waits new
TakesLines-rest before rest gathering held c0 c1 was waits old new ahead next t g =
    record {
      finished = t.finished;
      after = t.after ++ ahead.rest;
      parts = t.parts ∙ append_assoc t.finished t.after ahead.rest ∙ sym (append-nil (t.finished ++ (t.after ++ ahead.rest))) ∙ ap (λ l. (t.finished ++ (t.after ++ ahead.rest)) ++ l) (sym g.none);
      whole = t.whole;
      unfed = HasNoFeed-append t.after ahead.rest t.unfed g.unfed;
      is_buffer = subst (IsBufferOf (t.after ++ ahead.rest)) (sym g.begun) (IsBufferOf-extend t.after ahead.rest ahead.begun t.is_buffer);
      is_held = t.is_held;
      ask_for_none = t.ask_for_none;
      goes_on = t.goes_on;
    }

-- the next line asks for a save
pub TakesSave-line : (before rest : List ℕ) (gathering : Gathering) (held : GroupLines) (c0 c1 : Option (List Call)) (was waits : Waiting) (old new : Machine) (ahead ended_ahead last_ahead : Ahead)
    → (t : TakesLines before rest gathering held c0 c1 was old ahead waits new) → (e : EndsLine ahead ended_ahead)
    → left_in gathering t.finished ≡ Closed → is_save (ended_text (t.after ++ e.front)) ≡ true → last_ahead ≡ with_new_line ended_ahead
    → TakesSave before rest gathering c0 c1 was old last_ahead waits new
TakesSave-line before rest gathering held c0 c1 was waits old new ahead ended_ahead last_ahead t e closed saves is =
    record {
      finished = t.finished;
      line = t.after ++ e.front;
      parts = t.parts ∙ ap (λ l. (t.finished ++ t.after) ++ l) e.parts ∙ line_parts t.finished t.after e.front ended_ahead.rest
          ∙ ap (λ l. (t.finished ++ ((t.after ++ e.front) ++ 10 ∷ [])) ++ l) (ap (λ a. a.rest) (sym is));
      whole = t.whole;
      unfed = HasNoFeed-append t.after e.front t.unfed e.unfed;
      is_save = saves;
      is_closed = closed;
      begun = ap (λ a. a.begun) is;
      ask_for_none = t.ask_for_none;
      goes_on = t.goes_on;
    }

-- the line in the buffer, once it has ended
pub ended-buffer : (after : List ℕ) (ahead ended_ahead : Ahead) → IsBufferOf after ahead.begun → (e : EndsLine ahead ended_ahead) → IsBufferOf (after ++ e.front) ended_ahead.begun
ended-buffer after ahead ended_ahead is_buffer e = subst (IsBufferOf (after ++ e.front)) (sym e.begun) (IsBufferOf-extend after e.front ahead.begun is_buffer)

-- it broke off within the next line
pub BreaksLines-line : (fault : KeepFault) (before rest : List ℕ) (gathering : Gathering) (held : GroupLines) (c0 c1 c2 : Option (List Call)) (was waits : Waiting) (old mid new : Machine) (ahead ended_ahead : Ahead)
    → (t : TakesLines before rest gathering held c0 c1 was old ahead waits mid) → (e : EndsLine ahead ended_ahead)
    → IsNoSave (left_in gathering t.finished) (t.after ++ e.front)
    → BreaksWithin fault c1 c2 waits mid ((gathered_by (left_in gathering t.finished) (t.after ++ e.front)).1 ∷ []) new
    → BreaksLines fault before rest gathering c0 c2 was old new
BreaksLines-line fault before rest gathering held c0 c1 c2 was waits old mid new ahead ended_ahead t e none breaks start sum first earlier u =
    let line = t.after ++ e.front in
    let behind = left_in gathering t.finished in
    let asked = requests_in gathering t.finished in
    let one = (gathered_by behind line).1 ∷ [] in
    let unfed : HasNoFeed line = HasNoFeed-append t.after e.front t.unfed e.unfed in
    let finished = t.finished ++ (line ++ 10 ∷ []) in
    let bytes : before ++ rest ≡ finished ++ ended_ahead.rest =
    t.parts ∙ ap (λ l. (t.finished ++ t.after) ++ l) e.parts ∙ line_parts t.finished t.after e.front ended_ahead.rest in
    let whole : IsWhole finished = IsWhole-append t.finished (line ++ 10 ∷ []) t.whole (IsWhole-fed line) in
    let found = breaks start sum first (earlier ++ asked) (t.goes_on start sum first earlier u) in
    record {
      done = asked ++ found.0;
      parts = λ more.
          let later = requests_in (left_in gathering finished) (ended_ahead.rest ++ more) in (
            found.1 ++ later,
            ap (λ l. requests_in gathering (l ++ more)) bytes ∙ ap (requests_in gathering) (append_assoc finished ended_ahead.rest more)
                ∙ requests_in-whole gathering finished (ended_ahead.rest ++ more) whole
                ∙ ap (λ l. l ++ later) (requests_in-more gathering t.finished line t.whole unfed ∙ ap (λ l. asked ++ l) found.2)
                ∙ regroup asked found.0 found.1 later,
          );
      ask_for_none = AskForNone-append asked found.0 t.ask_for_none (AskForNone-front found.0 found.1 (subst AskForNone found.2 (no-save behind line none)));
      broke = subst (λ l. BrokeOff fault start c2 sum first l new) (append_assoc earlier asked found.0) found.3;
    }
  where
    regroup : (xs ys zs ws : List Request) → (xs ++ (ys ++ zs)) ++ ws ≡ (xs ++ ys) ++ (zs ++ ws)
    regroup xs ys zs ws = simp append_assoc
