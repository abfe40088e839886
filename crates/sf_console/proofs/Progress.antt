-- How serving goes on from line to line and from chunk to chunk.
use Rattle.std.proofs.Common.{◌≡◌, ◌≢◌, true, ℕ, ◌+◌, inl, inr, Result, Ok, Err, OnErr, List, [], ◌∷◌, ◌++◌, Option, take, drop, refl, sym, ap, ◌∙◌, subst, append_assoc, append-nil}
use Rattle.std.proofs.KnownBytes.{Consumes-trans, Consumes-kept, Appends-nil, Appends-trans}
use Rattle.std.specs.Io.KnownBytes.{Consumes, Appends, Keeps, IsAtEnd}
use Rattle.sf_text_lines.specs.Lines.{IsWhole, HasNoFeed}
use Rattle.sf_text_lines.specs.Buffers.{Buffered, nothing_buffered, buffered_with, IsBufferOf}
use Rattle.sf_text_lines.proofs.LineLemmas.{IsWhole-append, IsWhole-fed, HasNoFeed-append}
use Rattle.sf_text_lines.proofs.FeedLemmas.{IsFirstFeed}
use Rattle.sf_text_lines.proofs.BufferLemmas.{IsBufferOf-extend, IsBufferOf-nothing}
use Rattle.sf_streams.specs.Streams.{WritesFront}
use Rattle.sf_history.specs.History.{Machine}
use Rattle.sf_console.specs.declared.group_lines.GroupLines.{GroupLines}
use Rattle.sf_console.specs.Readings.{Reading, line_text}
use Rattle.sf_console.specs.Requests.{Closed, Comes, Gathering, gathered, left_in, readings, requests_from, whole_lines_come, whole_readings_of}
use Rattle.sf_console.specs.Gatherings.{IsAnsweredOnce, IsHeld, IsLastAnswered, events_at_end}
use Rattle.sf_console.specs.Session.{IsAnswered, Run}
use Rattle.sf_console.specs.Chunks.{Takes, Breaks, EndsInput, BreaksAtEnd, readings_in}
use Rattle.sf_console.specs.Serving.{ServesAll, ServesWholeLines, BreaksOff}
use Rattle.sf_console.proofs.Runs.{Run-append}
use Rattle.sf_console.proofs.ReadingLemmas.{left_in-fed, left_in-whole, readings_in-fed, readings_in-whole, readings_of-whole, whole_readings_of-line, whole_readings_of-whole}

-- so much was read and answered so far
pub record Progress (unread left : Option (List ℕ)) (buffered : Buffered) (held : GroupLines) (written_before written : Option (List ℕ)) (old new : Machine) : Type 0 where
  pub finished : List ℕ
  pub after : List ℕ
  pub output : List ℕ
  pub consumed : Consumes unread left (finished ++ after)
  pub whole : IsWhole finished
  pub unfed : HasNoFeed after
  pub is_buffer : IsBufferOf after buffered
  pub is_held : IsHeld (left_in Closed finished) held
  pub appended : Appends written_before written output
  pub ran : Run old (readings_in Closed finished) output new

-- what follows from two facts of an Err
pub OnErr-both : {T E P Q R : Type 0} (r : Result T E) → (P → Q → R) → OnErr r P → OnErr r Q → OnErr r R
OnErr-both (Ok x) f p q = tt
OnErr-both (Err e) f p q = f p q

-- the run of one line
pub Run-one : (old new : Machine) (line : Reading) (text : List ℕ) → IsAnswered old line text new → Run old (line ∷ []) text new
Run-one old new line text answered = (new, text, [], answered, (refl, refl), sym (append-nil text))

-- what is answered once runs
Run-once : (old new : Machine) (asked : List Reading) (text : List ℕ) → IsAnsweredOnce old asked text new → Run old asked text new
Run-once old new asked text once =
    subst (λ readings. Run old readings text new) (sym once.parts)
    (Run-append old old new once.earlier (once.last ∷ once.later) [] text once.before
    (new, text, [], once.answered, once.after, sym (append-nil text)))

-- the last line and the end of the input, as a run
pub EndsInput-answered : (before text : List ℕ) (gathering : Gathering) (written_before written : Option (List ℕ)) (old new : Machine)
    → IsLastAnswered old gathering before text new → Appends written_before written text → EndsInput before gathering written_before written old new
EndsInput-answered before text gathering written_before written old new once appended =
    record { output = text; appended = appended; ran = Run-once old new (readings (requests_from gathering (events_at_end before))) text once }

-- the last line or the end of the input, whose answer was begun
pub BreaksAtEnd-answered : (before text : List ℕ) (gathering : Gathering) (written_before written : Option (List ℕ)) (old new : Machine)
    → IsLastAnswered old gathering before text new → WritesFront written_before written text → text ≢ [] → BreaksAtEnd before gathering written_before written old new
BreaksAtEnd-answered before text gathering written_before written old new once front something =
    record {
      sent = front.sent;
      unsent = front.unsent;
      earlier = once.earlier;
      last = once.last;
      later = once.later;
      are = once.parts;
      ran = once.before;
      answered = subst (λ t. IsAnswered old once.last t new) front.parts once.answered;
      something = subst (λ t. t ≢ []) front.parts something;
      appended = front.appended;
    }

-- before a chunk nothing of it was taken
pub Takes-start : (before chunk : List ℕ) (buffered : Buffered) (gathering : Gathering) (held : GroupLines) (written : Option (List ℕ)) (machine : Machine)
    → IsBufferOf before buffered → HasNoFeed before → IsHeld gathering held → Takes before chunk chunk buffered gathering held written written machine machine
Takes-start before chunk buffered gathering held written machine is_buffer unfed is_held =
    record {
      finished = [];
      after = before;
      output = [];
      parts = refl;
      whole = inl refl;
      unfed = unfed;
      is_buffer = is_buffer;
      is_held = is_held;
      appended = Appends-nil written;
      ran = (refl, refl);
    }

-- the parts of the bytes once a line has ended
line_parts : (finished after front rest : List ℕ)
    → (finished ++ after) ++ ((front ++ 10 ∷ []) ++ rest) ≡ finished ++ (((after ++ front) ++ 10 ∷ []) ++ rest)
line_parts finished after front rest = simp append_assoc

-- a line that had its line feed
abbrev pub fed_line : List ℕ → Option (List ℕ)
fed_line bytes = line_text (record { bytes = bytes; ended = true })

-- what a line asks behind whole lines
abbrev pub asked_behind : Gathering → List ℕ → List ℕ → Reading
asked_behind gathering finished line = (gathered (left_in gathering finished) (Comes (fed_line line))).1.reading

-- one more line of the chunk was answered
pub Takes-line : (before chunk rest : List ℕ) (at : ℕ) (buffered : Buffered) (text : List ℕ) (gathering : Gathering) (held held' : GroupLines) (written_before written written' : Option (List ℕ)) (old mid new : Machine)
    → (t : Takes before chunk rest buffered gathering held written_before written old mid) → IsFirstFeed rest at
    → IsAnswered mid (asked_behind gathering t.finished (t.after ++ take at rest)) text new
    → IsHeld (gathered (left_in gathering t.finished) (Comes (fed_line (t.after ++ take at rest)))).0 held' → Appends written written' text
    → Takes before chunk (drop (at + 1) rest) nothing_buffered gathering held' written_before written' old new
Takes-line before chunk rest at buffered text gathering held held' written_before written written' old mid new t feed answered is_held appended =
    let line = t.after ++ take at rest in
    let unfed : HasNoFeed line = HasNoFeed-append t.after (take at rest) t.unfed feed.unfed in
    record {
      finished = t.finished ++ (line ++ 10 ∷ []);
      after = [];
      output = t.output ++ text;
      parts =
          t.parts ∙ ap (λ l. (t.finished ++ t.after) ++ l) feed.parts ∙ line_parts t.finished t.after (take at rest) (drop (at + 1) rest)
          ∙ sym (append_assoc t.finished (line ++ 10 ∷ []) (drop (at + 1) rest))
          ∙ ap (λ l. l ++ drop (at + 1) rest) (sym (append-nil (t.finished ++ (line ++ 10 ∷ []))));
      whole = IsWhole-append t.finished (line ++ 10 ∷ []) t.whole (IsWhole-fed line);
      unfed = refl;
      is_buffer = IsBufferOf-nothing;
      is_held = subst (λ g. IsHeld g held') (sym (left_in-whole gathering t.finished (line ++ 10 ∷ []) t.whole ∙ left_in-fed (left_in gathering t.finished) line unfed)) is_held;
      appended = Appends-trans written_before written written' t.output text t.appended appended;
      ran = subst (λ lines. Run old lines (t.output ++ text) new)
          (sym (readings_in-whole gathering t.finished (line ++ 10 ∷ []) t.whole ∙ ap (λ l. readings_in gathering t.finished ++ l) (readings_in-fed (left_in gathering t.finished) line unfed)))
          (Run-append old mid new (readings_in gathering t.finished) (asked_behind gathering t.finished line ∷ []) t.output text t.ran (Run-one mid new (asked_behind gathering t.finished line) text answered));
    }

-- the answer to a line of the chunk was begun
pub Takes-break : (before chunk rest : List ℕ) (at : ℕ) (buffered : Buffered) (text : List ℕ) (gathering : Gathering) (held : GroupLines) (written_before written written' : Option (List ℕ)) (old mid new : Machine)
    → (t : Takes before chunk rest buffered gathering held written_before written old mid) → IsFirstFeed rest at
    → IsAnswered mid (asked_behind gathering t.finished (t.after ++ take at rest)) text new → WritesFront written written' text → text ≢ []
    → Breaks before chunk gathering written_before written' old new
Takes-break before chunk rest at buffered text gathering held written_before written written' old mid new t feed answered front something =
    let line = t.after ++ take at rest in
    record {
      finished = t.finished;
      line = line;
      rest = drop (at + 1) rest;
      parts = t.parts ∙ ap (λ l. (t.finished ++ t.after) ++ l) feed.parts ∙ line_parts t.finished t.after (take at rest) (drop (at + 1) rest);
      whole = t.whole;
      unfed = HasNoFeed-append t.after (take at rest) t.unfed feed.unfed;
      output = t.output;
      sent = front.sent;
      unsent = front.unsent;
      mid = mid;
      ran = t.ran;
      answered = subst (λ text. IsAnswered mid (asked_behind gathering t.finished line) text new) front.parts answered;
      something = subst (λ text. text ≢ []) front.parts something;
      appended = Appends-trans written_before written written' t.output front.sent t.appended front.appended;
    }

-- the rest of the chunk has no line feed, and is buffered
pub Takes-rest : (before chunk rest : List ℕ) (buffered : Buffered) (gathering : Gathering) (held : GroupLines) (written_before written : Option (List ℕ)) (old new : Machine)
    → Takes before chunk rest buffered gathering held written_before written old new → HasNoFeed rest
    → Takes before chunk [] (buffered_with buffered rest) gathering held written_before written old new
Takes-rest before chunk rest buffered gathering held written_before written old new t unfed =
    record {
      finished = t.finished;
      after = t.after ++ rest;
      output = t.output;
      parts = t.parts ∙ append_assoc t.finished t.after rest ∙ sym (append-nil (t.finished ++ (t.after ++ rest)));
      whole = t.whole;
      unfed = HasNoFeed-append t.after rest t.unfed unfed;
      is_buffer = IsBufferOf-extend t.after rest buffered t.is_buffer;
      is_held = t.is_held;
      appended = t.appended;
      ran = t.ran;
    }

-- one more chunk was read and taken
pub Progress-step : (unread left left' : Option (List ℕ)) (chunk : List ℕ) (buffered buffered' : Buffered) (held held' : GroupLines) (written_before written written' : Option (List ℕ)) (old mid new : Machine)
    → (p : Progress unread left buffered held written_before written old mid) → Consumes left left' chunk
    → Takes p.after chunk [] buffered' (left_in Closed p.finished) held' written written' mid new
    → Progress unread left' buffered' held' written_before written' old new
Progress-step unread left left' chunk buffered buffered' held held' written_before written written' old mid new p consumes t =
    record {
      finished = p.finished ++ t.finished;
      after = t.after;
      output = p.output ++ t.output;
      consumed = subst (Consumes unread left')
          (append_assoc p.finished p.after chunk ∙ ap (λ l. p.finished ++ l) (t.parts ∙ append-nil (t.finished ++ t.after)) ∙ sym (append_assoc p.finished t.finished t.after))
          (Consumes-trans unread left left' (p.finished ++ p.after) chunk p.consumed consumes);
      whole = IsWhole-append p.finished t.finished p.whole t.whole;
      unfed = t.unfed;
      is_buffer = t.is_buffer;
      is_held = subst (λ g. IsHeld g held') (sym (left_in-whole Closed p.finished t.finished p.whole)) t.is_held;
      appended = Appends-trans written_before written written' p.output t.output p.appended t.appended;
      ran = subst (λ lines. Run old lines (p.output ++ t.output) new) (sym (readings_in-whole Closed p.finished t.finished p.whole))
          (Run-append old mid new (readings_in Closed p.finished) (readings_in (left_in Closed p.finished) t.finished) p.output t.output p.ran t.ran);
    }

-- the reader failed
pub Progress-fault : (unread left left' : Option (List ℕ)) (buffered : Buffered) (held : GroupLines) (written_before written : Option (List ℕ)) (old new : Machine)
    → Progress unread left buffered held written_before written old new → Keeps left left' → ServesWholeLines unread left' written_before written old new
Progress-fault unread left left' buffered held written_before written old new p keeps =
    record {
      taken = p.finished ++ p.after;
      output = p.output;
      consumed = Consumes-kept unread left left' (p.finished ++ p.after) p.consumed keeps;
      appended = p.appended;
      ran = subst (λ lines. Run old lines p.output new) (sym (whole_readings_of-whole p.finished p.after p.whole p.unfed)) p.ran;
    }

-- what the last bytes and the end of the input ask behind whole lines
abbrev asked_at_end : List ℕ → List ℕ → List Reading
asked_at_end finished after = readings (requests_from (left_in Closed finished) (events_at_end after))

-- the input ended
pub Progress-end : (unread left left' : Option (List ℕ)) (buffered : Buffered) (held : GroupLines) (written_before written written' : Option (List ℕ)) (old mid new : Machine)
    → (p : Progress unread left buffered held written_before written old mid) → Consumes left left' [] → IsAtEnd left'
    → EndsInput p.after (left_in Closed p.finished) written written' mid new
    → ServesAll unread left' written_before written' old new
Progress-end unread left left' buffered held written_before written written' old mid new p consumes at_end f =
    record {
      taken = p.finished ++ p.after;
      output = p.output ++ f.output;
      consumed = subst (Consumes unread left') (append-nil (p.finished ++ p.after)) (Consumes-trans unread left left' (p.finished ++ p.after) [] p.consumed consumes);
      at_end = at_end;
      appended = Appends-trans written_before written written' p.output f.output p.appended f.appended;
      ran = subst (λ lines. Run old lines (p.output ++ f.output) new) (sym (readings_of-whole p.finished p.after p.whole p.unfed))
          (Run-append old mid new (readings_in Closed p.finished) (asked_at_end p.finished p.after) p.output f.output p.ran f.ran);
    }

-- the writer broke off within a chunk
pub Progress-break : (unread left left' : Option (List ℕ)) (chunk : List ℕ) (buffered : Buffered) (held : GroupLines) (written_before written written' : Option (List ℕ)) (old mid new : Machine)
    → (p : Progress unread left buffered held written_before written old mid) → Consumes left left' chunk
    → Breaks p.after chunk (left_in Closed p.finished) written written' mid new
    → BreaksOff unread left' written_before written' old new
Progress-break unread left left' chunk buffered held written_before written written' old mid new p consumes b =
    let gathering = left_in Closed p.finished in
    let last = asked_behind gathering b.finished b.line in
    let earlier = readings_in Closed p.finished ++ readings_in gathering b.finished in
    let later = readings (requests_from (gathered (left_in gathering b.finished) (Comes (fed_line b.line))).0 (whole_lines_come b.rest)) in
    record {
      taken = (p.finished ++ p.after) ++ chunk;
      consumed = Consumes-trans unread left left' (p.finished ++ p.after) chunk p.consumed consumes;
      earlier = earlier;
      last = last;
      first_lines = inl (
        later,
        ap whole_readings_of (append_assoc p.finished p.after chunk ∙ ap (λ l. p.finished ++ l) b.parts)
            ∙ whole_readings_of-line p.finished b.finished b.line b.rest p.whole b.whole b.unfed
            ∙ regroup (readings_in Closed p.finished) (readings_in gathering b.finished) last later,
      );
      output = p.output ++ b.output;
      sent = b.sent;
      unsent = b.unsent;
      mid = b.mid;
      ran = Run-append old mid b.mid (readings_in Closed p.finished) (readings_in gathering b.finished) p.output b.output p.ran b.ran;
      answered = b.answered;
      something = b.something;
      appended = subst (Appends written_before written') (sym (append_assoc p.output b.output b.sent))
          (Appends-trans written_before written written' p.output (b.output ++ b.sent) p.appended b.appended);
    }
  where
    regroup : (xs ys : List Reading) (line : Reading) (zs : List Reading) → xs ++ (ys ++ (line ∷ zs)) ≡ ((xs ++ ys) ++ line ∷ []) ++ zs
    regroup xs ys line zs = simp append_assoc

-- the writer broke off within the answer to the last line, or to the end of the input
pub Progress-break_at_end : (unread left left' : Option (List ℕ)) (buffered : Buffered) (held : GroupLines) (written_before written written' : Option (List ℕ)) (old mid new : Machine)
    → (p : Progress unread left buffered held written_before written old mid) → Consumes left left' [] → IsAtEnd left'
    → BreaksAtEnd p.after (left_in Closed p.finished) written written' mid new
    → BreaksOff unread left' written_before written' old new
Progress-break_at_end unread left left' buffered held written_before written written' old mid new p consumes at_end b =
    record {
      taken = p.finished ++ p.after;
      consumed = subst (Consumes unread left') (append-nil (p.finished ++ p.after)) (Consumes-trans unread left left' (p.finished ++ p.after) [] p.consumed consumes);
      earlier = readings_in Closed p.finished ++ b.earlier;
      last = b.last;
      first_lines = inr (
        at_end,
        b.later,
        readings_of-whole p.finished p.after p.whole p.unfed ∙ ap (λ l. readings_in Closed p.finished ++ l) b.are
            ∙ regroup (readings_in Closed p.finished) b.earlier b.last b.later,
      );
      output = p.output;
      sent = b.sent;
      unsent = b.unsent;
      mid = mid;
      ran = subst (λ o. Run old (readings_in Closed p.finished ++ b.earlier) o mid) (append-nil p.output)
          (Run-append old mid mid (readings_in Closed p.finished) b.earlier p.output [] p.ran b.ran);
      answered = b.answered;
      something = b.something;
      appended = Appends-trans written_before written written' p.output b.sent p.appended b.appended;
    }
  where
    regroup : (xs ys : List Reading) (line : Reading) (zs : List Reading) → xs ++ (ys ++ (line ∷ zs)) ≡ ((xs ++ ys) ++ line ∷ []) ++ zs
    regroup xs ys line zs = simp append_assoc

-- what an Err has, where the result is one
pub OnErr-at : {T E P : Type 0} (r : Result T E) (e : E) → r ≡ Err e → OnErr r P → P
OnErr-at (Ok x) e is p = absurd (cc)
OnErr-at (Err d) e is p = p
