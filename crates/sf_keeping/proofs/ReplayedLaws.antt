-- Bytes read as no other texts, and texts lead to no other machine.
use Rattle.std.proofs.Common.{◌≡◌, ◌≢◌, ◌⊎◌, ℕ, true, false, inl, inr, List, [], ◌∷◌, ◌++◌, drop, Option, None, Some, refl, sym, ap, ◌∙◌, subst, append_assoc}
use Rattle.std.specs.List.{AllByRecursion}
use Rattle.sf_text_lines.specs.Lines.{Line, lines_of, HasNoFeed}
use Rattle.sf_journal.specs.Records.{records, record_of, line_of, sum_with, sum_behind}
use Rattle.sf_journal.specs.Readings.{AreIn, Ending, Reads}
use Rattle.sf_journal.specs.Readings.Ending.{Whole, CutShort, Damaged as IsDamaged}
use Rattle.sf_journal.proofs.FrontLaws.{lines_of-record}
use Rattle.sf_journal.proofs.RecordLaws.{drop-line}
use Rattle.sf_console.specs.History.{Machine}
use Rattle.sf_console.specs.Readings.{text_reading}
use Rattle.sf_keeping.specs.Changes.{changed, Leads}
use Rattle.sf_keeping.specs.Laws.{ReplayLaw}
use Rattle.sf_keeping.specs.Replays.{FailsAt, IsReplayed, ending_of}
use Rattle.sf_keeping.specs.declared.replaying.ReplayFault.{ReplayFault}
use Rattle.sf_keeping.specs.declared.replaying.ReplayFault.TheVariants.{Memory, Damaged, NotAccepted}
use Rattle.sf_keeping.specs.declared.replaying.Replayed.{Replayed}

-- true is not false
ended-differs : (line : Line) → line.ended ≡ true → line.ended ≡ false → ⊥
ended-differs line on off = differ (sym on ∙ off)
  where
    differ : true ≡ false → ⊥
    differ h = cc

-- one line is the record of one text
same-text : (line : List ℕ) (sum : ℕ) (one other : List ℕ) → line ≡ line_of sum one → line ≡ line_of sum other → one ≡ other
same-text line sum one other is_one is_other = sym (drop-line sum line one is_one) ∙ drop-line sum line other is_other

-- one more in front of both
both-more : (one other : List ℕ) (texts others : List (List ℕ)) → one ≡ other → texts ≡ others → one ∷ texts ≡ other ∷ others
both-more one other texts others same all = ap (λ t. t ∷ texts) same ∙ ap (λ l. other ∷ l) all

-- the same lines have the same texts, and end in the same way
one-reading : (sum : ℕ) (lines : List Line) (texts others : List (List ℕ)) (ending other_ending : Ending) → AreIn sum lines texts ending → AreIn sum lines others other_ending
    → (texts ≡ others) × (ending ≡ other_ending)
one-reading sum [] [] [] ending other_ending a b = (refl, a ∙ sym b)
one-reading sum [] [] (u ∷ others) ending other_ending a b = absurd b
one-reading sum [] (t ∷ texts) others ending other_ending a b = absurd a
one-reading sum (line ∷ lines) [] [] ending other_ending (inl a) (inl b) = (refl, a.1 ∙ sym b.1)
one-reading sum (line ∷ lines) [] [] ending other_ending (inl a) (inr b) = absurd (ended-differs line b.0 a.0)
one-reading sum (line ∷ lines) [] [] ending other_ending (inr a) (inl b) = absurd (ended-differs line a.0 b.0)
one-reading sum (line ∷ lines) [] [] ending other_ending (inr a) (inr b) = (refl, a.2 ∙ sym b.2)
one-reading sum (line ∷ lines) [] (u ∷ others) ending other_ending (inl a) b = absurd (ended-differs line b.0 a.0)
one-reading sum (line ∷ lines) [] (u ∷ others) ending other_ending (inr a) b = absurd (a.1 u b.1)
one-reading sum (line ∷ lines) (t ∷ texts) [] ending other_ending a (inl b) = absurd (ended-differs line a.0 b.0)
one-reading sum (line ∷ lines) (t ∷ texts) [] ending other_ending a (inr b) = absurd (b.1 t a.1)
one-reading sum (line ∷ lines) (t ∷ texts) (u ∷ others) ending other_ending a b =
    let same : t ≡ u = same-text line.bytes sum t u a.1 b.1 in
    let later = one-reading (sum_with sum t) lines texts others ending other_ending a.2 (subst (λ x. AreIn (sum_with sum x) lines others other_ending) (sym same) b.2) in
    (both-more t u texts others same later.0, later.1)

-- a record in front of lines that are read has the first of the texts
first-text : (sum : ℕ) (t : List ℕ) (lines : List Line) (texts : List (List ℕ)) (ending : Ending) → AreIn sum (record { bytes = line_of sum t; ended = true } ∷ lines) texts ending
    → (later : List (List ℕ)) × (texts ≡ t ∷ later) × AreIn (sum_with sum t) lines later ending
first-text sum t lines [] ending (inl a) = absurd (ended-differs (record { bytes = line_of sum t; ended = true }) refl a.0)
first-text sum t lines [] ending (inr a) = absurd (a.1 t refl)
first-text sum t lines (u ∷ texts) ending a =
    let same : t ≡ u = same-text (line_of sum t) sum t u refl a.1 in
    (texts, both-more u t texts texts (sym same) refl, subst (λ x. AreIn (sum_with sum x) lines texts ending) (sym same) a.2)

-- what reads behind whole records begins with their texts
begins-with : (sum : ℕ) (first : List (List ℕ)) (rest : List ℕ) (texts : List (List ℕ)) (ending : Ending) → AllByRecursion HasNoFeed first
    → Reads sum (records sum first ++ rest) texts ending → (later : List (List ℕ)) × (texts ≡ first ++ later)
begins-with sum [] rest texts ending unfed reads = (texts, refl)
begins-with sum (t ∷ first) rest texts ending unfed reads =
    let found = first-text sum t (lines_of (records (sum_with sum t) first ++ rest)) texts ending
    (subst (λ l. AreIn sum l texts ending)
    (ap lines_of (append_assoc (record_of sum t) (records (sum_with sum t) first) rest) ∙ lines_of-record sum t (records (sum_with sum t) first ++ rest) unfed.0) reads) in
    let later = begins-with (sum_with sum t) first rest found.0 ending unfed.1 found.2 in
    (later.0, found.1 ∙ ap (λ l. t ∷ l) later.1)

-- texts lead to one machine
one-lead : (old : Machine) (texts : List (List ℕ)) (new other : Machine) → Leads old texts new → Leads old texts other → new ≡ other
one-lead old [] new other a b = a ∙ sym b
one-lead old (t ∷ texts) new other (mid, is, leads) (mid_other, is_other, leads_other) =
    one-lead mid texts new other leads (subst (λ m. Leads m texts other) (sym same) leads_other)
  where
    same : mid ≡ mid_other
    same = some (sym is ∙ is_other)
      where
        some : ◌≡◌ {A = Option Machine} (Some mid) (Some mid_other) → mid ≡ mid_other
        some h = cc

-- where a text is not accepted, no texts lead on behind it
no-lead : (old : Machine) (first : List (List ℕ)) (text : List ℕ) (later : List (List ℕ)) (mid last : Machine) → Leads old first mid → changed mid (text_reading text) ≡ None
    → Leads old (first ++ text ∷ later) last → ⊥
no-lead old [] text later mid last same none (next, is, leads) = differ (sym none ∙ ap (λ m. changed m (text_reading text)) same ∙ is)
  where
    differ : ◌≡◌ {A = Option Machine} None (Some next) → ⊥
    differ h = cc
no-lead old (t ∷ first) text later mid last (next, is, leads) none (next_other, is_other, leads_other) =
    no-lead next first text later mid last leads none (subst (λ m. Leads m (first ++ text ∷ later) last) (sym same) leads_other)
  where
    same : next ≡ next_other
    same = some (sym is ∙ is_other)
      where
        some : ◌≡◌ {A = Option Machine} (Some next) (Some next_other) → next ≡ next_other
        some h = cc

-- it is replayed to this machine
replayed-so : (sum : ℕ) (bytes : List ℕ) (texts : List (List ℕ)) (ending : Ending) (old last : Machine) → Reads sum bytes texts ending → Leads old texts last
    → (done : Replayed) (new : Machine) → IsReplayed sum bytes old done new → (new ≡ last) × (done.sum ≡ sum_behind sum texts)
replayed-so sum bytes texts ending old last reads leads done new r =
    let same = one-reading sum (lines_of bytes) r.texts texts (ending_of done.is_cut_short) ending r.reads reads in
    (one-lead old texts new last (subst (λ t. Leads old t new) same.0 r.leads) leads, r.behind ∙ ap (sum_behind sum) same.0)

-- it fails for want of memory alone
fails-so : (sum : ℕ) (bytes : List ℕ) (texts : List (List ℕ)) (ending : Ending) (old last : Machine) → Reads sum bytes texts ending → ending ≢ IsDamaged → Leads old texts last
    → (fault : ReplayFault) → FailsAt sum bytes old fault → fault ≡ Memory
fails-so sum bytes texts ending old last reads undamaged leads Memory fails = refl
fails-so sum bytes texts ending old last reads undamaged leads (Damaged place) (others, machine, reads_so, leads_so, is_place) =
    absurd (undamaged (one-reading sum (lines_of bytes) texts others ending IsDamaged reads reads_so).1)
fails-so sum bytes texts ending old last reads undamaged leads (NotAccepted place) (first, text, rest, machine, parts, leads_so, is_place, none, unfed) =
    let begins = begins-with sum (first ++ text ∷ []) rest texts ending unfed (subst (λ b. Reads sum b texts ending) parts reads) in
    let all : texts ≡ first ++ text ∷ begins.0 = begins.1 ∙ append_assoc first (text ∷ []) begins.0 in
    absurd (no-lead old first text begins.0 machine last leads_so none (subst (λ t. Leads old t last) all leads))

pub replay-law : ReplayLaw
replay-law sum bytes texts ending old last reads undamaged leads =
    (replayed-so sum bytes texts ending old last reads leads, fails-so sum bytes texts ending old last reads undamaged leads)
