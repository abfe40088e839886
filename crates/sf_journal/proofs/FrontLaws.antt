-- What a crash may leave of records: the front of them reads as a front of their texts.
use Rattle.std.proofs.Common.{◌≡◌, ℕ, Bool, true, false, ◌==◌, ◌||◌, inl, List, [], ◌∷◌, ◌++◌, refl, sym, ap, ◌∙◌, subst, append_assoc}
use Rattle.std.proofs.lemmas.List.{append_cancel_left}
use Rattle.std.specs.List.{AllByRecursion, list_any}
use Rattle.sf_text_lines.specs.Lines.{lines_of, HasNoFeed}
use Rattle.sf_text_lines.proofs.LineLemmas.{lines_of-append, lines_of-fed, lines_of-unfed}
use Rattle.sf_journal.specs.Records.{records, record_of, line_of, sum_with, sum_behind}
use Rattle.sf_journal.specs.Readings.{AreIn, Reads, Ending}
use Rattle.sf_journal.specs.Readings.Ending.{Whole, CutShort}
use Rattle.sf_journal.specs.Fronts.{ReadsFront, FrontLaw}
use Rattle.sf_journal.proofs.FeedLaws.{HasNoFeed-line}

-- the lines of a record and of what follows it
pub lines_of-record : (sum : ℕ) (text rest : List ℕ) → HasNoFeed text
    → lines_of (record_of sum text ++ rest) ≡ record { bytes = line_of sum text; ended = true } ∷ lines_of rest
lines_of-record sum text rest unfed =
    lines_of-append (line_of sum text) rest ∙ ap (λ l. l ++ lines_of rest) (lines_of-fed (line_of sum text) (HasNoFeed-line sum text unfed))

-- records in front of others are read
pub Reads-records : (sum : ℕ) (texts : List (List ℕ)) (bytes : List ℕ) (more : List (List ℕ)) (ending : Ending)
    → AllByRecursion HasNoFeed texts → Reads (sum_behind sum texts) bytes more ending → Reads sum (records sum texts ++ bytes) (texts ++ more) ending
Reads-records sum [] bytes more ending unfed reads = reads
Reads-records sum (text ∷ texts) bytes more ending unfed reads =
    let rest = records (sum_with sum text) texts ++ bytes in
    subst (λ l. AreIn sum l (text ∷ texts ++ more) ending)
    (sym (ap lines_of (append_assoc (record_of sum text) (records (sum_with sum text) texts) bytes) ∙ lines_of-record sum text rest unfed.0))
    (refl, refl, Reads-records (sum_with sum text) texts bytes more ending unfed.1 reads)

-- how two fronts of one list lie: the one goes on behind the other, or ends before it does
data Fronts {A : Type 0} (a b c d : List A) : Type 0 where
  Behind : (e : List A) → a ≡ c ++ e → e ++ b ≡ d → Fronts a b c d
  Within : (x : A) (e : List A) → c ≡ a ++ x ∷ e → Fronts a b c d

fronts : {A : Type 0} (a b c d : List A) → a ++ b ≡ c ++ d → Fronts a b c d
fronts a b [] d is = Behind a refl is
fronts [] b (y ∷ c) d is = Within y c refl
fronts (x ∷ a) b (y ∷ c) d is = onto (fronts a b c d (tail_eq is)) (head_eq is)
  where
    head_eq : x ∷ a ++ b ≡ y ∷ c ++ d → x ≡ y
    head_eq h = cc

    tail_eq : x ∷ a ++ b ≡ y ∷ c ++ d → a ++ b ≡ c ++ d
    tail_eq h = cc

    onto : Fronts a b c d → x ≡ y → Fronts (x ∷ a) b (y ∷ c) d
    onto (Behind e p q) h = Behind e (ap (λ l. x ∷ l) p ∙ ap (λ z. z ∷ c ++ e) h) q
    onto (Within z e p) h = Within z e (ap (λ l. y ∷ l) p ∙ ap (λ w. w ∷ a ++ z ∷ e) (sym h))

-- a front of a line with its feed that is not all of it has no feed
unfed-within : (line front : List ℕ) (x : ℕ) (e : List ℕ) → HasNoFeed line → line ++ 10 ∷ [] ≡ front ++ x ∷ e → HasNoFeed front
unfed-within line [] x e unfed is = refl
unfed-within [] (y ∷ []) x e unfed is = absurd (no_more is)
  where
    no_more : 10 ∷ [] ≡ y ∷ x ∷ e → ⊥
    no_more h = cc
unfed-within [] (y ∷ z ∷ front) x e unfed is = absurd (no_more is)
  where
    no_more : 10 ∷ [] ≡ y ∷ z ∷ front ++ x ∷ e → ⊥
    no_more h = cc
unfed-within (l ∷ line) (y ∷ front) x e unfed is =
    at_byte (unfed-within line front x e) (l == 10) refl unfed (tail_eq is)
  where
    head_eq : l ∷ line ++ 10 ∷ [] ≡ y ∷ front ++ x ∷ e → l ≡ y
    head_eq h = cc

    tail_eq : l ∷ line ++ 10 ∷ [] ≡ y ∷ front ++ x ∷ e → line ++ 10 ∷ [] ≡ front ++ x ∷ e
    tail_eq h = cc

    at_byte : (HasNoFeed line → line ++ 10 ∷ [] ≡ front ++ x ∷ e → HasNoFeed front)
        → (b : Bool) → (l == 10) ≡ b → (b || list_any (λ c. c == 10) line) ≡ false → line ++ 10 ∷ [] ≡ front ++ x ∷ e → HasNoFeed (y ∷ front)
    at_byte later true h u t = cc
    at_byte later false h u t = subst (λ c. (c || list_any (λ c. c == 10) front) ≡ false) (sym h ∙ ap (λ c. c == 10) (head_eq is)) (later u t)

-- bytes without a line feed were cut short, or there are none
unfed-reads : (sum : ℕ) (texts : List (List ℕ)) (front : List ℕ) → HasNoFeed front → ReadsFront sum texts front
unfed-reads sum texts [] unfed = record { first = []; later = texts; parts = refl; ending = Whole; reads = refl; undamaged = λ h. cc }
unfed-reads sum texts (x ∷ xs) unfed = record {
  first = [];
  later = texts;
  parts = refl;
  ending = CutShort;
  reads = subst (λ l. AreIn sum l [] CutShort) (sym (lines_of-unfed x xs unfed)) (inl (refl, refl));
  undamaged = λ h. cc;
}

-- a front of records reads as a front of their texts
front-reads : (sum : ℕ) (texts : List (List ℕ)) (front rest : List ℕ)
    → AllByRecursion HasNoFeed texts → front ++ rest ≡ records sum texts → ReadsFront sum texts front
front-reads sum [] [] rest unfed is = unfed-reads sum [] [] refl
front-reads sum [] (x ∷ xs) rest unfed is = absurd (no_front is)
  where
    no_front : x ∷ xs ++ rest ≡ [] → ⊥
    no_front h = cc
front-reads sum (text ∷ texts) front rest unfed is =
    at (fronts front rest (record_of sum text) (records (sum_with sum text) texts) is) (λ e p. front-reads (sum_with sum text) texts e rest unfed.1 p)
  where
    at : Fronts front rest (record_of sum text) (records (sum_with sum text) texts)
        → ((e : List ℕ) → e ++ rest ≡ records (sum_with sum text) texts → ReadsFront (sum_with sum text) texts e) → ReadsFront sum (text ∷ texts) front
    at (Within x e p) later = unfed-reads sum (text ∷ texts) front (unfed-within (line_of sum text) front x e (HasNoFeed-line sum text unfed.0) p)
    at (Behind e p q) later =
        let r = later e q in
        record {
          first = text ∷ r.first;
          later = r.later;
          parts = ap (λ l. text ∷ l) r.parts;
          ending = r.ending;
          reads = subst (λ l. AreIn sum l (text ∷ r.first) r.ending) (sym (ap lines_of p ∙ lines_of-record sum text e unfed.0)) (refl, refl, r.reads);
          undamaged = r.undamaged;
        }

-- the records of two lists
pub records-append : (sum : ℕ) (texts more : List (List ℕ)) → records sum (texts ++ more) ≡ records sum texts ++ records (sum_behind sum texts) more
records-append sum [] more = refl
records-append sum (text ∷ texts) more =
    ap (λ l. record_of sum text ++ l) (records-append (sum_with sum text) texts more)
    ∙ sym (append_assoc (record_of sum text) (records (sum_with sum text) texts) (records (sum_behind (sum_with sum text) texts) more))

-- all of two lists is all of each
all_front : (texts more : List (List ℕ)) → AllByRecursion HasNoFeed (texts ++ more) → AllByRecursion HasNoFeed texts × AllByRecursion HasNoFeed more
all_front [] more all = (tt, all)
all_front (text ∷ texts) more all = let parts = all_front texts more all.1 in ((all.0, parts.0), parts.1)

pub front-law : FrontLaw
front-law sum texts more bytes unfed (after, is) (rest, within) =
    let parts = all_front texts more unfed in
    let left : after ++ rest ≡ records (sum_behind sum texts) more =
    append_cancel_left (records sum texts) (after ++ rest) (records (sum_behind sum texts) more)
    (sym (append_assoc (records sum texts) after rest) ∙ ap (λ l. l ++ rest) (sym is) ∙ sym within ∙ records-append sum texts more) in
    let r = front-reads (sum_behind sum texts) more after rest parts.1 left in (
      r.first,
      r.later,
      r.ending,
      r.parts,
      subst (λ l. Reads sum l (texts ++ r.first) r.ending) (sym is) (Reads-records sum texts after r.first r.ending parts.0 r.reads),
      r.undamaged,
    )
