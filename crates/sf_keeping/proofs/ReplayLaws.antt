-- From record to record of a journal that is done again.
use Rattle.std.proofs.Common.{◌≡◌, ℕ, ◌+◌, ◌-◌, ◌≤◌, Bool, not, true, false, ◌==◌, ◌||◌, ◌⊎◌, inl, inr, List, [], ◌∷◌, ◌++◌, length, take, drop, None, Some, refl, sym, ap, ◌∙◌, subst, append_assoc, append-nil, arith}
use Rattle.std.proofs.lemmas.Grind.{common_steps}
use Rattle.std.proofs.lemmas.List.{length-append}
use Rattle.std.specs.List.{AllByRecursion, list_any}
use Rattle.sf_text_lines.specs.Lines.{lines_of, HasNoFeed}
use Rattle.sf_text_lines.proofs.LineLemmas.{lines_of-append, lines_of-fed, lines_of-unfed}
use Rattle.sf_text_lines.proofs.FeedLemmas.{IsFirstFeed}
use Rattle.sf_journal.specs.Records.{records, record_of, line_of, mark_of, sum_with, sum_behind}
use Rattle.sf_journal.specs.Readings.{AreIn, Reads}
use Rattle.sf_journal.specs.Readings.Ending.{CutShort, Damaged}
use Rattle.sf_journal.proofs.FrontLaws.{Reads-records, records-append}
use Rattle.sf_console.specs.History.{Machine}
use Rattle.sf_console.specs.Readings.{text_reading}
use Rattle.sf_keeping.specs.Changes.{changed}
use Rattle.sf_keeping.specs.Changes.{Leads}
use Rattle.sf_keeping.specs.Replays.{IsReplayed, FailsAt, ending_of}
use Rattle.sf_keeping.specs.declared.replaying.ReplayFault.{ReplayFault}
use Rattle.sf_keeping.specs.declared.replaying.ReplayFault.TheVariants.{Memory, NotAccepted}
use Rattle.sf_keeping.specs.declared.replaying.Replayed.{Replayed}
use Rattle.sf_keeping.proofs.Underways.{sum_behind-append}

-- the records before the rest were done again
pub record ReplaysSo (first_sum : ℕ) (bytes rest : List ℕ) (old : Machine) (sum : ℕ) (new : Machine) : Type 0 where
  pub texts : List (List ℕ)
  pub parts : bytes ≡ records first_sum texts ++ rest
  pub leads : Leads old texts new
  pub behind : sum ≡ sum_behind first_sum texts
  pub unfed : AllByRecursion HasNoFeed texts

-- none yet
pub Replays-start : (sum : ℕ) (bytes : List ℕ) (old : Machine) → ReplaysSo sum bytes bytes old sum old
Replays-start sum bytes old = record { texts = []; parts = refl; leads = refl; behind = refl; unfed = tt }

-- what ends bytes without a feed has none
unfed-back : (xs ys : List ℕ) → HasNoFeed (xs ++ ys) → HasNoFeed ys
unfed-back [] ys unfed = unfed
unfed-back (x ∷ xs) ys unfed = unfed-back xs ys (rest (x == 10) (list_any (λ b. b == 10) (xs ++ ys)) unfed)
  where
    rest : (a b : Bool) → (a || b) ≡ false → b ≡ false
    rest true b h = cc
    rest false b h = h

-- one text more
Leads-more : (old mid new : Machine) (texts : List (List ℕ)) (text : List ℕ) → Leads old texts mid → changed mid (text_reading text) ≡ Some new → Leads old (texts ++ text ∷ []) new
Leads-more old mid new [] text same does = (new, subst (λ m. changed m (text_reading text) ≡ Some new) same does, refl)
Leads-more old mid new (t ∷ texts) text (next, is, leads) does = (next, is, Leads-more next mid new texts text leads does)

all_more : (texts : List (List ℕ)) (text : List ℕ) → AllByRecursion HasNoFeed texts → HasNoFeed text → AllByRecursion HasNoFeed (texts ++ text ∷ [])
all_more [] text all unfed = (unfed, tt)
all_more (t ∷ texts) text all unfed = (all.0, all_more texts text all.1 unfed)

-- the records of some texts and of one more
records_more : (sum : ℕ) (texts : List (List ℕ)) (text : List ℕ) → records sum (texts ++ text ∷ []) ≡ records sum texts ++ record_of (sum_behind sum texts) text
records_more sum texts text = records-append sum texts (text ∷ []) ∙ ap (λ l. records sum texts ++ l) (append-nil (record_of (sum_behind sum texts) text))

-- the bytes, with the record that stands at their rest
pub parts_more : (first_sum : ℕ) (bytes rest : List ℕ) (old : Machine) (sum : ℕ) (mid : Machine) (end : ℕ) (text : List ℕ)
    → (r : ReplaysSo first_sum bytes rest old sum mid) → IsFirstFeed rest end → take end rest ≡ line_of sum text
    → bytes ≡ records first_sum (r.texts ++ text ∷ []) ++ drop (end + 1) rest
parts_more first_sum bytes rest old sum mid end text r feed is =
    r.parts ∙ ap (λ l. records first_sum r.texts ++ l) (feed.parts ∙ ap (λ l. (l ++ 10 ∷ []) ++ drop (end + 1) rest) (is ∙ ap (λ s. line_of s text) r.behind))
    ∙ sym (append_assoc (records first_sum r.texts) (record_of (sum_behind first_sum r.texts) text) (drop (end + 1) rest))
    ∙ ap (λ l. l ++ drop (end + 1) rest) (sym (records_more first_sum r.texts text))

-- one record more was done again
pub Replays-step : (first_sum : ℕ) (bytes rest left : List ℕ) (old : Machine) (sum next : ℕ) (mid new : Machine) (end : ℕ) (text : List ℕ)
    → ReplaysSo first_sum bytes rest old sum mid → IsFirstFeed rest end → take end rest ≡ line_of sum text
    → changed mid (text_reading text) ≡ Some new → next ≡ sum_with sum text → left ≡ drop (end + 1) rest
    → ReplaysSo first_sum bytes left old next new
Replays-step first_sum bytes rest left old sum next mid new end text r feed is does goes after =
    record {
      texts = r.texts ++ text ∷ [];
      parts = parts_more first_sum bytes rest old sum mid end text r feed is ∙ ap (λ l. records first_sum (r.texts ++ text ∷ []) ++ l) (sym after);
      leads = Leads-more old mid new r.texts text r.leads does;
      behind = goes ∙ ap (λ s. sum_with s text) r.behind ∙ sym (sum_behind-append first_sum r.texts (text ∷ []));
      unfed = all_more r.texts text r.unfed (unfed-back (mark_of (sum_with sum text)) text (subst HasNoFeed is feed.unfed));
    }

-- where the rest begins
pub place_of : (first_sum : ℕ) (bytes rest : List ℕ) (old : Machine) (sum : ℕ) (new : Machine) → (r : ReplaysSo first_sum bytes rest old sum new)
    → length bytes - length rest ≡ length (records first_sum r.texts)
place_of first_sum bytes rest old sum new r =
    let both : length bytes ≡ length (records first_sum r.texts) + length rest = ap length r.parts ∙ length-append (records first_sum r.texts) rest in
    omega (arith, both)

-- what stands at the rest is no record
pub Reads-damaged : (first_sum : ℕ) (bytes rest : List ℕ) (old : Machine) (sum : ℕ) (new : Machine) (end : ℕ)
    → (r : ReplaysSo first_sum bytes rest old sum new) → IsFirstFeed rest end → ((text : List ℕ) → take end rest ≡ line_of sum text → ⊥)
    → Reads first_sum bytes r.texts Damaged
Reads-damaged first_sum bytes rest old sum new end r feed none =
    let lines : lines_of rest ≡ record { bytes = take end rest; ended = true } ∷ lines_of (drop (end + 1) rest) =
    ap lines_of feed.parts ∙ lines_of-append (take end rest) (drop (end + 1) rest) ∙ ap (λ l. l ++ lines_of (drop (end + 1) rest)) (lines_of-fed (take end rest) feed.unfed) in
    let at_rest : Reads (sum_behind first_sum r.texts) rest [] Damaged =
    subst (λ s. Reads s rest [] Damaged) r.behind (subst (λ l. AreIn sum l [] Damaged) (sym lines) (inr (refl, none, refl))) in
    subst (λ b. Reads first_sum b r.texts Damaged) (sym r.parts)
    (subst (λ t. Reads first_sum (records first_sum r.texts ++ rest) t Damaged) (append-nil r.texts) (Reads-records first_sum r.texts rest [] Damaged r.unfed at_rest))

-- whether there is a byte
abbrev pub some_byte : List ℕ → Bool
some_byte [] = false
some_byte (b ∷ bytes) = true

-- the rest has no feed
at_end : (sum : ℕ) (rest : List ℕ) → HasNoFeed rest → Reads sum rest [] (ending_of (some_byte rest))
at_end sum [] unfed = refl
at_end sum (b ∷ bytes) unfed = subst (λ l. AreIn sum l [] CutShort) (sym (lines_of-unfed b bytes unfed)) (inl (refl, refl))

-- all records were done again
pub Replays-end : (first_sum : ℕ) (bytes rest : List ℕ) (old : Machine) (sum : ℕ) (new : Machine) (done : Replayed)
    → ReplaysSo first_sum bytes rest old sum new → HasNoFeed rest → done.sum ≡ sum → done.whole ≡ length bytes - length rest → done.is_cut_short ≡ some_byte rest
    → IsReplayed first_sum bytes old done new
Replays-end first_sum bytes rest old sum new done r unfed same whole cut =
    record {
      texts = r.texts;
      reads = subst (λ e. Reads first_sum bytes r.texts (ending_of e)) (sym cut) (subst (λ b. Reads first_sum b r.texts (ending_of (some_byte rest))) (sym r.parts)
          (subst (λ t. Reads first_sum (records first_sum r.texts ++ rest) t (ending_of (some_byte rest))) (append-nil r.texts)
          (Reads-records first_sum r.texts rest [] (ending_of (some_byte rest)) r.unfed (at_end (sum_behind first_sum r.texts) rest unfed))));
      leads = r.leads;
      behind = same ∙ r.behind;
      rest = rest;
      parts = r.parts;
      whole = whole ∙ place_of first_sum bytes rest old sum new r;
    }

-- it failed at the text of the record that stands at the rest
pub FailsAt-text : (first_sum : ℕ) (bytes rest : List ℕ) (old : Machine) (sum : ℕ) (mid : Machine) (end : ℕ) (text : List ℕ) (fault : ReplayFault)
    → ReplaysSo first_sum bytes rest old sum mid → IsFirstFeed rest end → take end rest ≡ line_of sum text
    → (fault ≡ Memory) ⊎ ((fault ≡ NotAccepted (length bytes - length rest)) × (changed mid (text_reading text) ≡ None)) → FailsAt first_sum bytes old fault
FailsAt-text first_sum bytes rest old sum mid end text fault r feed is (inl memory) = subst (FailsAt first_sum bytes old) (sym memory) tt
FailsAt-text first_sum bytes rest old sum mid end text fault r feed is (inr (place, none)) =
    subst (FailsAt first_sum bytes old) (sym place) (
      r.texts,
      text,
      drop (end + 1) rest,
      mid,
      parts_more first_sum bytes rest old sum mid end text r feed is,
      r.leads,
      place_of first_sum bytes rest old sum mid r,
      none,
      all_more r.texts text r.unfed (unfed-back (mark_of (sum_with sum text)) text (subst HasNoFeed is feed.unfed)),
    )

-- the rest is no longer than the whole
pub rest_fits : (first_sum : ℕ) (bytes rest : List ℕ) (old : Machine) (sum : ℕ) (new : Machine) → ReplaysSo first_sum bytes rest old sum new → length rest ≤ length bytes
rest_fits first_sum bytes rest old sum new r =
    let both : length bytes ≡ length (records first_sum r.texts) + length rest = ap length r.parts ∙ length-append (records first_sum r.texts) rest in
    omega (arith, both)

-- whether there is a byte, by the length
pub some_byte-length : (bytes : List ℕ) → not (length bytes == 0) ≡ some_byte bytes
some_byte-length [] = refl
some_byte-length (b ∷ bytes) =
    let some : (length (b ∷ bytes) == 0) ≡ false = grind (arith, common_steps) in
    ap not some
