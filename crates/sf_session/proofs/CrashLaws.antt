-- What a crash leaves of a store while lines are served.
use Rattle.std.proofs.Common.{◌≡◌, ◌≢◌, ◌⊎◌, inl, inr, ℕ, suc, ◌+◌, ◌≤◌, Bool, true, false, List, [], ◌∷◌, ◌++◌, length, Option, None, Some, option_map, slice_get, refl, sym, ap, ◌∙◌, subst, append_assoc, append-nil, arith}
use Rattle.std.proofs.lemmas.List.{length-append}
use Rattle.std.specs.List.{AllByRecursion}
use Rattle.sf_text_lines.specs.Lines.{HasNoFeed}
use Rattle.sf_journal.specs.Records.{first_sum, head_of, records, sum_behind}
use Rattle.sf_journal.specs.Readings.{Ending, Reads}
use Rattle.sf_journal.specs.Readings.Ending.{Whole, CutShort, Damaged}
use Rattle.sf_journal.specs.Fronts.{IsFrontOf as IsFrontOfBytes}
use Rattle.sf_journal.proofs.FrontLaws.{Reads-records}
use Rattle.sf_folder.specs.Calls.{AnswerFails, Answers, Begins, Call, FindsNone, IsFrontOf, IsPartOf, Knows, Locks, Opens, Reads as ReadsFile, Refuses, Renames, Stays, SyncFails, SyncsFile, SyncsFolder, Warns, WriteFails, Writes}
use Rattle.sf_folder.specs.declared.names.Name.{Name}
use Rattle.sf_folder.specs.declared.names.Name.TheVariants.{Store, StoreBeside, Journal, JournalBeside}
use Rattle.sf_folder.specs.declared.choosing.Chosen.{Chosen}
use Rattle.sf_folder.specs.declared.choosing.Chosen.TheVariants.{UnderItsName, Beside, NoneYet}
use Rattle.sf_folder.specs.Disks.{Contents, Disk, File, IsLeftAt, IsLeftOf, MayLeave, Names, OneOf, after, after_call as disk_after, disk_of, renamed, synced_file}
use Rattle.sf_folder.specs.Laws.{LeavesOnly}
use Rattle.sf_folder.specs.Openings.{HasHead, HasTexts, IsSound, OpensTo, bytes_of}
use Rattle.sf_folder.specs.Renewals.{Chooses, renewing_calls, rewriting_calls, settling_calls}
use Rattle.sf_keeping.specs.History.{Machine}
use Rattle.sf_keeping.specs.Requests.{Request}
use Rattle.sf_keeping.specs.Changes.{Leads}
use Rattle.sf_keeping.specs.Desks.{Standing, after_call, after_calls, nothing_yet}
use Rattle.sf_keeping.specs.Laws.{IsLeft}
use Rattle.sf_keeping.specs.Moments.{AtEachMoment, IsCovered}
use Rattle.sf_keeping.proofs.KeptLaws.{IsFrontOf-trans, recovery-law}
use Rattle.sf_session.specs.Laws.{IsThere, KeepingLaw}
use Rattle.sf_session.proofs.FollowingLaws.{Follows, follows, known-first}

-- ---- moments within a call

-- of what is put behind the journal a front may stand there
covered-part : (sum : ℕ) (old last : Machine) (asked : List Request) (standing : Standing) (front rest : List ℕ)
    → IsCovered sum old asked last (record standing { waiting = standing.waiting ++ (front ++ rest) }) → IsCovered sum old asked last (record standing { waiting = standing.waiting ++ front })
covered-part sum old last asked standing front rest c =
    record {
      first = c.first;
      later = c.later;
      parts = c.parts;
      output = c.output;
      texts = c.texts;
      mid = c.mid;
      answers = c.answers;
      later_output = c.later_output;
      later_texts = c.later_texts;
      rest = c.rest;
      answered = c.answered;
      kept = c.kept;
      journal = IsFrontOf-trans (standing.kept ++ (standing.waiting ++ front)) (standing.kept ++ (standing.waiting ++ (front ++ rest))) _
          (rest, ap (λ l. standing.kept ++ l) (sym (append_assoc standing.waiting front rest)) ∙ sym (append_assoc standing.kept (standing.waiting ++ front) rest)) c.journal;
    }

differs : {P : Type 0} → true ≡ false → P
differs h = absurd (no_way h)
  where
    no_way : true ≡ false → ⊥
    no_way h = cc

-- what holds behind a call holds behind a part of it
part-covered : (sum : ℕ) (old last : Machine) (asked : List Request) (standing : Standing) (part call : Call) → IsPartOf part call
    → IsCovered sum old asked last (after_call standing call) → (after_call standing call).broken ≡ false
    → IsCovered sum old asked last (after_call standing part) × ((after_call standing part).broken ≡ false)
part-covered sum old last asked standing part (Writes Journal bytes) (front, rest, is, same) c known =
    let less : IsCovered sum old asked last (record standing { waiting = standing.waiting ++ front }) =
    covered-part sum old last asked standing front rest (subst (λ b. IsCovered sum old asked last (record standing { waiting = standing.waiting ++ b })) is c) in
    (subst (λ p. IsCovered sum old asked last (after_call standing p)) (sym same) less, subst (λ p. (after_call standing p).broken ≡ false) (sym same) known)
part-covered sum old last asked standing part (Writes Store bytes) is c known = differs known
part-covered sum old last asked standing part (Writes StoreBeside bytes) is c known = differs known
part-covered sum old last asked standing part (Writes JournalBeside bytes) is c known = differs known
part-covered sum old last asked standing part (Begins name) is c known = (subst (λ p. IsCovered sum old asked last (after_call standing p)) (sym is) c, subst (λ p. (after_call standing p).broken ≡ false) (sym is) known)
part-covered sum old last asked standing part (SyncsFile name) is c known = (subst (λ p. IsCovered sum old asked last (after_call standing p)) (sym is) c, subst (λ p. (after_call standing p).broken ≡ false) (sym is) known)
part-covered sum old last asked standing part (Renames from to) is c known = (subst (λ p. IsCovered sum old asked last (after_call standing p)) (sym is) c, subst (λ p. (after_call standing p).broken ≡ false) (sym is) known)
part-covered sum old last asked standing part SyncsFolder is c known = (subst (λ p. IsCovered sum old asked last (after_call standing p)) (sym is) c, subst (λ p. (after_call standing p).broken ≡ false) (sym is) known)
part-covered sum old last asked standing part Locks is c known = (subst (λ p. IsCovered sum old asked last (after_call standing p)) (sym is) c, subst (λ p. (after_call standing p).broken ≡ false) (sym is) known)
part-covered sum old last asked standing part FindsNone is c known = (subst (λ p. IsCovered sum old asked last (after_call standing p)) (sym is) c, subst (λ p. (after_call standing p).broken ≡ false) (sym is) known)
part-covered sum old last asked standing part (Opens found) is c known = (subst (λ p. IsCovered sum old asked last (after_call standing p)) (sym is) c, subst (λ p. (after_call standing p).broken ≡ false) (sym is) known)
part-covered sum old last asked standing part Stays is c known = (subst (λ p. IsCovered sum old asked last (after_call standing p)) (sym is) c, subst (λ p. (after_call standing p).broken ≡ false) (sym is) known)
part-covered sum old last asked standing part (ReadsFile name found) is c known = (subst (λ p. IsCovered sum old asked last (after_call standing p)) (sym is) c, subst (λ p. (after_call standing p).broken ≡ false) (sym is) known)
part-covered sum old last asked standing part Warns is c known = (subst (λ p. IsCovered sum old asked last (after_call standing p)) (sym is) c, subst (λ p. (after_call standing p).broken ≡ false) (sym is) known)
part-covered sum old last asked standing part (Answers bytes) is c known = (subst (λ p. IsCovered sum old asked last (after_call standing p)) (sym is) c, subst (λ p. (after_call standing p).broken ≡ false) (sym is) known)
part-covered sum old last asked standing part (Knows size digest) is c known = (subst (λ p. IsCovered sum old asked last (after_call standing p)) (sym is) c, subst (λ p. (after_call standing p).broken ≡ false) (sym is) known)
part-covered sum old last asked standing part Refuses is c known = (subst (λ p. IsCovered sum old asked last (after_call standing p)) (sym is) c, subst (λ p. (after_call standing p).broken ≡ false) (sym is) known)
part-covered sum old last asked standing part (WriteFails name bytes) is c known = (subst (λ p. IsCovered sum old asked last (after_call standing p)) (sym is) c, subst (λ p. (after_call standing p).broken ≡ false) (sym is) known)
part-covered sum old last asked standing part (SyncFails name) is c known = (subst (λ p. IsCovered sum old asked last (after_call standing p)) (sym is) c, subst (λ p. (after_call standing p).broken ≡ false) (sym is) known)
part-covered sum old last asked standing part (AnswerFails bytes) is c known = (subst (λ p. IsCovered sum old asked last (after_call standing p)) (sym is) c, subst (λ p. (after_call standing p).broken ≡ false) (sym is) known)

-- what holds behind each front of calls holds behind what was made of them
made-covered : (sum : ℕ) (old last : Machine) (asked : List Request) (made calls : List Call) (standing : Standing)
    → ((front behind : List Call) → calls ≡ front ++ behind → IsCovered sum old asked last (after_calls standing front))
    → (after_calls standing calls).broken ≡ false → IsFrontOf made calls
    → IsCovered sum old asked last (after_calls standing made) × ((after_calls standing made).broken ≡ false)
made-covered sum old last asked [] calls standing moments known front = (moments [] calls refl, known-first standing calls known)
made-covered sum old last asked (call ∷ made) [] standing moments known front = absurd front
made-covered sum old last asked (call ∷ made) (next ∷ calls) standing moments known (inl (is, front)) =
    subst (λ c. IsCovered sum old asked last (after_calls (after_call standing c) made) × ((after_calls (after_call standing c) made).broken ≡ false)) (sym is)
    (made-covered sum old last asked made calls (after_call standing next) (λ first behind parts. moments (next ∷ first) behind (ap (λ l. next ∷ l) parts)) known front)
made-covered sum old last asked (call ∷ made) (next ∷ calls) standing moments known (inr (part, none)) =
    subst (λ m. IsCovered sum old asked last (after_calls (after_call standing call) m) × ((after_calls (after_call standing call) m).broken ≡ false)) (sym none)
    (part-covered sum old last asked standing call next part (moments (next ∷ []) calls refl) (known-first (after_call standing next) calls known))

-- ---- the disk behind an opening

-- a journal has its name for certain, with all of these bytes on the disk, and the store's file is as it was
record HasJournal (contents : Contents) (bytes : List ℕ) (disk : Disk) : Type 0 where
  journal : ℕ
  at : disk.names Journal ≡ Some journal
  certain : disk.possible ≡ disk.names ∷ []
  file : slice_get disk.files journal ≡ Some (record { bytes = bytes; synced = length bytes })
  store_at : disk.names Store ≡ option_map (λ _. 0) (contents Store)
  store : slice_get disk.files 0 ≡ Some (synced_file (contents Store))
  apart : 0 ≡ journal → ⊥

not-four : ◌≡◌ {A = ℕ} 0 4 → ⊥
not-four h = cc

-- the bytes of head and records
rewritten : (contents : Contents) (head recs : List ℕ) → HasJournal contents (head ++ recs) (after (disk_of contents) (rewriting_calls head recs))
rewritten contents head recs =
    record { journal = 4; at = refl; certain = refl; file = refl; store_at = refl; store = refl; apart = not-four }

-- the same behind a journal that was settled first
settled : (contents : Contents) (head recs : List ℕ) (beside : Option ℕ) → ((disk_of contents).names JournalBeside) ≡ beside → (beside ≡ Some 3)
    → HasJournal contents (head ++ recs) (after (disk_of contents) (settling_calls ++ rewriting_calls head recs))
settled contents head recs beside is some =
    subst (λ o. HasJournal contents (head ++ recs) (after (disk_after (renamed o JournalBeside Journal (disk_after (disk_of contents) SyncsFolder)) SyncsFolder) (rewriting_calls head recs)))
    (sym (is ∙ some))
    (record { journal = 4; at = refl; certain = refl; file = refl; store_at = refl; store = refl; apart = not-four })

beside-is : (there : Option (List ℕ)) (head : List ℕ) → HasHead head there → option_map {U = ℕ} (λ _. 3) there ≡ Some 3
beside-is None head has = absurd has
beside-is (Some bytes) head has = refl

renewed-disk : (contents : Contents) (chosen : Chosen) (head recs : List ℕ) → Chooses head (contents Journal) (contents JournalBeside) (Some chosen)
    → HasJournal contents (head ++ recs) (after (disk_of contents) (renewing_calls chosen head recs))
renewed-disk contents UnderItsName head recs chooses = rewritten contents head recs
renewed-disk contents NoneYet head recs chooses = rewritten contents head recs
renewed-disk contents Beside head recs chooses = settled contents head recs _ refl (beside-is (contents JournalBeside) head chooses.1)

after-append : (disk : Disk) (calls more : List Call) → after disk (calls ++ more) ≡ after (after disk calls) more
after-append disk [] more = refl
after-append disk (call ∷ calls) more = after-append (disk_after disk call) calls more

-- ---- what a crash leaves of it

whole-front : (bytes left rest : List ℕ) → bytes ≡ left ++ rest → length bytes ≤ length left → left ≡ bytes
whole-front bytes left [] is long = sym (is ∙ append-nil left)
whole-front bytes left (x ∷ rest) is long = absurd (too_long (ap length is ∙ length-append left (x ∷ rest)))
  where
    too_long : length bytes ≡ length left + length (x ∷ rest) → ⊥
    too_long h = omega (arith, h, long)

some-file : (a b : File) → Option.Some a ≡ Option.Some b → a ≡ b
some-file a b h = cc

-- the store's file is left as it was
store-left : (files : List File) (there left : Option (List ℕ)) → slice_get files 0 ≡ Some (synced_file there) → IsLeftAt files (option_map (λ _. 0) there) left → left ≡ there
store-left files None None is h = refl
store-left files None (Some kept) is h = absurd h
store-left files (Some bytes) None is h = absurd h
store-left files (Some bytes) (Some kept) is (file, there, h) =
    let same : file ≡ record { bytes = bytes; synced = length bytes } = some-file file _ (sym there ∙ is) in
    ap Some (whole-front bytes kept h.rest (sym (ap (λ f. f.bytes) same) ∙ h.front) (subst (λ f. f.synced ≤ length kept) same h.synced))

-- what stands behind a front that is left whole
behind-front : (front more left rest : List ℕ) → front ++ more ≡ left ++ rest → length front ≤ length left → (kept : List ℕ) × (left ≡ front ++ kept) × (more ≡ kept ++ rest)
behind-front [] more left rest is long = (left, refl, is)
behind-front (x ∷ front) more [] rest is long = absurd (short long)
  where
    short : suc (length front) ≤ 0 → ⊥
    short h = omega (arith, h)
behind-front (x ∷ front) more (y ∷ left) rest is long =
    let found = behind-front front more left rest (tail_eq is) (less long) in
    (found.0, ap (λ l. y ∷ l) found.1 ∙ ap (λ z. z ∷ front ++ found.0) (sym (head_eq is)), found.2)
  where
    head_eq : x ∷ front ++ more ≡ y ∷ left ++ rest → x ≡ y
    head_eq h = cc

    tail_eq : x ∷ front ++ more ≡ y ∷ left ++ rest → front ++ more ≡ left ++ rest
    tail_eq h = cc

    less : suc (length front) ≤ suc (length left) → length front ≤ length left
    less h = omega (arith, h)

-- what a crash leaves of a journal of which a front is on the disk
record JournalLeft (bytes : List ℕ) (standing : Standing) (left : Option (List ℕ)) : Type 0 where
  behind : List ℕ
  is : left ≡ Some (bytes ++ behind)
  leaves : IsLeft standing behind

journal-left : (files : List File) (journal : ℕ) (bytes : List ℕ) (standing : Standing) (left : Option (List ℕ))
    → slice_get files journal ≡ Some (record { bytes = bytes ++ (standing.kept ++ standing.waiting); synced = length (bytes ++ standing.kept) })
    → IsLeftAt files (Some journal) left → JournalLeft bytes standing left
journal-left files journal bytes standing None is h = absurd h
journal-left files journal bytes standing (Some left) is (file, there, h) =
    let same : file ≡ record { bytes = bytes ++ (standing.kept ++ standing.waiting); synced = length (bytes ++ standing.kept) } = some-file file _ (sym there ∙ is) in
    let front : bytes ++ (standing.kept ++ standing.waiting) ≡ left ++ h.rest = sym (ap (λ f. f.bytes) same) ∙ h.front in
    let long : length (bytes ++ standing.kept) ≤ length left = subst (λ f. f.synced ≤ length left) same h.synced in
    let all = behind-front (bytes ++ standing.kept) standing.waiting left h.rest (append_assoc bytes standing.kept standing.waiting ∙ front) long in
    record {
      behind = standing.kept ++ all.0;
      is = ap Some (all.1 ∙ append_assoc bytes standing.kept all.0);
      leaves = record {
        has_kept = (all.0, refl);
        has_no_more = (h.rest, ap (λ l. standing.kept ++ l) all.2 ∙ sym (append_assoc standing.kept all.0 h.rest));
      };
    }

sound : (ending : Ending) → ending ≢ Damaged → IsSound ending
sound Whole undamaged = inl refl
sound CutShort undamaged = inr refl
sound Damaged undamaged = absurd (undamaged refl)

-- the texts behind those from before
all-texts : (file : List ℕ) (texts later : List (List ℕ)) (behind : List ℕ) (ending : Ending) (left : Option (List ℕ)) → AllByRecursion HasNoFeed texts
    → Reads (sum_behind (first_sum file) texts) behind later ending → ending ≢ Damaged → left ≡ Some ((head_of file ++ records (first_sum file) texts) ++ behind) → HasTexts file (texts ++ later) left
all-texts file texts later behind ending left unfed reads undamaged is =
    subst (HasTexts file (texts ++ later)) (sym is) (
      records (first_sum file) texts ++ behind,
      append_assoc (head_of file) (records (first_sum file) texts) behind,
      ending,
      Reads-records (first_sum file) texts behind later ending unfed reads,
      sound ending undamaged,
    )

one-of : (P : Names → Type 0) (names : Names) → OneOf P (names ∷ []) → P names
one-of P names (inl h) = h
one-of P names (inr h) = absurd h

pub keeping-law : KeepingLaw
keeping-law contents file texts chosen old last asked calls made opens unfed chooses moments known front left may =
    let recs = records (first_sum file) texts in
    let bytes = head_of file ++ recs in
    let disk = after (disk_of contents) (renewing_calls chosen (head_of file) recs) in
    let h : HasJournal contents bytes disk = renewed-disk contents chosen (head_of file) recs chooses in
    let covered = made-covered (sum_behind (first_sum file) texts) old last asked made calls nothing_yet moments known front in
    let standing = after_calls nothing_yet made in
    let begins : Follows disk h.journal bytes disk nothing_yet =
    record { names = refl; possible = h.certain; file = h.file ∙ ap (λ l. Some (record { bytes = l; synced = length l })) (sym (append-nil bytes)); others = λ other differ. refl } in
    let f : Follows disk h.journal bytes (after disk made) standing = follows disk disk h.journal bytes nothing_yet made h.at covered.1 begins in
    let now : MayLeave (after disk made) left = subst (λ d. MayLeave d left) (after-append (disk_of contents) (renewing_calls chosen (head_of file) recs) made) may in
    let each : (name : Name) → IsLeftAt (after disk made).files (disk.names name) (left name) =
    one-of (λ names. (name : Name) → IsLeftAt (after disk made).files (names name) (left name)) disk.names
    (subst (OneOf (λ names. (name : Name) → IsLeftAt (after disk made).files (names name) (left name))) f.possible now) in
    let store : left Store ≡ contents Store =
    store-left (after disk made).files (contents Store) (left Store) (f.others 0 h.apart ∙ h.store) (subst (λ o. IsLeftAt (after disk made).files o (left Store)) h.store_at (each Store)) in
    let journal : JournalLeft bytes standing (left Journal) =
    journal-left (after disk made).files h.journal bytes standing (left Journal) f.file (subst (λ o. IsLeftAt (after disk made).files o (left Journal)) h.at (each Journal)) in
    let r = recovery-law (sum_behind (first_sum file) texts) old asked last standing journal.behind covered.0 journal.leaves in
    record {
      later = r.texts;
      opens = (ap bytes_of store ∙ opens.0, inl (all-texts file texts r.texts journal.behind r.ending (left Journal) unfed r.reads r.undamaged journal.is));
      machine = r.machine;
      leads = r.leads;
      first = r.first;
      rest = r.later;
      parts = r.parts;
      output = r.output;
      answers = r.answers;
      has_answered = r.has_answered;
    }
