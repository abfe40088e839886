-- What is kept of what is asked, one after another, and what it leads to.
use Rattle.std.proofs.Common.{◌≡◌, ℕ, inl, inr, List, [], ◌∷◌, ◌++◌, refl, sym, ap, ◌∙◌, subst, append_assoc, append-nil}
use Rattle.std.specs.List.{AllByRecursion}
use Rattle.sf_text_lines.specs.Lines.{HasNoFeed}
use Rattle.sf_journal.specs.Fronts.{IsFrontOf}
use Rattle.sf_journal.proofs.FrontLaws.{front-law}
use Rattle.sf_console.specs.History.{Machine}
use Rattle.sf_console.specs.Requests.{Request}
use Rattle.sf_keeping.specs.Changes.{Leads}
use Rattle.sf_keeping.specs.Kept.{IsKept, Keeps}
use Rattle.sf_keeping.specs.Laws.{RecoveryLaw}

-- requests behind others
pub Keeps-append : (old mid new : Machine) (asked more : List Request) (output rest : List ℕ) (texts later : List (List ℕ))
    → Keeps old asked output texts mid → Keeps mid more rest later new → Keeps old (asked ++ more) (output ++ rest) (texts ++ later) new
Keeps-append old mid new [] more output rest texts later (no_output, no_text, same) keeps =
    subst (λ o. Keeps old more (o ++ rest) (texts ++ later) new) (sym no_output)
    (subst (λ t. Keeps old more rest (t ++ later) new) (sym no_text) (subst (λ m. Keeps m more rest later new) same keeps))
Keeps-append old mid new (request ∷ asked) more output rest texts later (next, answer, own, others, after, kept, keeps, out, all) more_keeps = (
  next,
  answer,
  own,
  others ++ rest,
  after ++ later,
  kept,
  Keeps-append next mid new asked more others rest after later keeps more_keeps,
  ap (λ o. o ++ rest) out ∙ append_assoc answer others rest,
  ap (λ t. t ++ later) all ∙ append_assoc own after later,
)

-- one request
pub Keeps-one : (old new : Machine) (request : Request) (answer : List ℕ) (own : List (List ℕ)) → IsKept old request answer own new → Keeps old (request ∷ []) answer own new
Keeps-one old new request answer own kept = (new, answer, own, [], [], kept, (refl, refl, refl), sym (append-nil answer), sym (append-nil own))

-- what is kept leads to the same machine
pub Keeps-leads : (old new : Machine) (asked : List Request) (output : List ℕ) (texts : List (List ℕ)) → Keeps old asked output texts new → Leads old texts new
Keeps-leads old new [] output texts (no_output, no_text, same) = subst (λ t. Leads old t new) (sym no_text) same
Keeps-leads old new (request ∷ asked) output texts (next, answer, own, others, after, (answered, inl (none, same)), keeps, out, all) =
    subst (λ t. Leads old t new) (sym (all ∙ ap (λ t. t ++ after) none)) (subst (λ m. Leads m after new) same (Keeps-leads next new asked others after keeps))
Keeps-leads old new (request ∷ asked) output texts (next, answer, own, others, after, (answered, inr (text, unfed, is)), keeps, out, all) =
    subst (λ t. Leads old t new) (sym (all ∙ ap (λ t. t ++ after) text)) (next, is, Keeps-leads next new asked others after keeps)

-- no text that is kept has a line feed
pub Keeps-unfed : (old new : Machine) (asked : List Request) (output : List ℕ) (texts : List (List ℕ)) → Keeps old asked output texts new → AllByRecursion HasNoFeed texts
Keeps-unfed old new [] output texts (no_output, no_text, same) = subst (AllByRecursion HasNoFeed) (sym no_text) tt
Keeps-unfed old new (request ∷ asked) output texts (next, answer, own, others, after, (answered, inl (none, same)), keeps, out, all) =
    subst (AllByRecursion HasNoFeed) (sym (all ∙ ap (λ t. t ++ after) none)) (Keeps-unfed next new asked others after keeps)
Keeps-unfed old new (request ∷ asked) output texts (next, answer, own, others, after, (answered, inr (text, unfed, is)), keeps, out, all) =
    subst (AllByRecursion HasNoFeed) (sym (all ∙ ap (λ t. t ++ after) text)) (unfed, Keeps-unfed next new asked others after keeps)

-- some first requests, of which these texts are kept
pub record Until (old : Machine) (asked : List Request) (texts : List (List ℕ)) : Type 0 where
  pub first : List Request
  pub later : List Request
  pub parts : asked ≡ first ++ later
  pub output : List ℕ
  pub machine : Machine
  pub keeps : Keeps old first output texts machine

-- requests of which two lists of texts are kept have first ones of which the first list is
pub Keeps-until : (old new : Machine) (asked : List Request) (output : List ℕ) (texts more : List (List ℕ)) → Keeps old asked output (texts ++ more) new → Until old asked texts
Keeps-until old new asked output [] more keeps = record { first = []; later = asked; parts = refl; output = []; machine = old; keeps = (refl, refl, refl) }
Keeps-until old new [] output (text ∷ texts) more (no_output, no_text, same) = absurd (some no_text)
  where
    some : text ∷ texts ++ more ≡ [] → ⊥
    some h = cc
Keeps-until old new (request ∷ asked) output (text ∷ texts) more (next, answer, own, others, after, (answered, inl (none, same)), keeps, out, all) =
    let left : text ∷ texts ++ more ≡ after = all ∙ ap (λ t. t ++ after) none in
    let u = Keeps-until next new asked others (text ∷ texts) more (subst (λ t. Keeps next asked others t new) (sym left) keeps) in
    record {
      first = request ∷ u.first;
      later = u.later;
      parts = ap (λ l. request ∷ l) u.parts;
      output = answer ++ u.output;
      machine = u.machine;
      keeps = (next, answer, own, u.output, text ∷ texts, (answered, inl (none, same)), u.keeps, refl, ap (λ t. t ++ text ∷ texts) (sym none));
    }
Keeps-until old new (request ∷ asked) output (text ∷ texts) more (next, answer, own, others, after, (answered, inr (is, unfed, does)), keeps, out, all) =
    let left : text ∷ texts ++ more ≡ _ ∷ after = all ∙ ap (λ t. t ++ after) is in
    let u = Keeps-until next new asked others texts more (subst (λ t. Keeps next asked others t new) (sym (tail_eq left)) keeps) in
    record {
      first = request ∷ u.first;
      later = u.later;
      parts = ap (λ l. request ∷ l) u.parts;
      output = answer ++ u.output;
      machine = u.machine;
      keeps = (next, answer, own, u.output, texts, (answered, inr (is, unfed, does)), u.keeps, refl, ap (λ t. t ∷ texts) (head_eq left) ∙ ap (λ t. t ++ texts) (sym is));
    }
  where
    head_eq : {x y : List ℕ} {xs ys : List (List ℕ)} → x ∷ xs ≡ y ∷ ys → x ≡ y
    head_eq h = cc

    tail_eq : {x y : List ℕ} {xs ys : List (List ℕ)} → x ∷ xs ≡ y ∷ ys → xs ≡ ys
    tail_eq h = cc

-- a front of a front
pub IsFrontOf-trans : (a b c : List ℕ) → IsFrontOf a b → IsFrontOf b c → IsFrontOf a c
IsFrontOf-trans a b c (x, p) (y, q) = (x ++ y, q ∙ ap (λ l. l ++ y) p ∙ append_assoc a x y)

-- all of two lists from all of each
both_all : (texts more : List (List ℕ)) → AllByRecursion HasNoFeed texts → AllByRecursion HasNoFeed more → AllByRecursion HasNoFeed (texts ++ more)
both_all [] more all later = later
both_all (text ∷ texts) more all later = (all.0, both_all texts more all.1 later)

pub recovery-law : RecoveryLaw
recovery-law sum old asked last standing bytes c left =
    let unfed = both_all c.texts c.later_texts (Keeps-unfed old c.mid c.first c.output c.texts c.answers) (Keeps-unfed c.mid last c.later c.later_output c.later_texts c.rest) in
    let r = front-law sum c.texts c.later_texts bytes unfed (IsFrontOf-trans _ _ _ c.kept left.has_kept) (IsFrontOf-trans _ _ _ left.has_no_more c.journal) in
    let u = Keeps-until c.mid last c.later c.later_output r.0 r.1 (subst (λ t. Keeps c.mid c.later c.later_output t last) r.3 c.rest) in
    let all = Keeps-append old c.mid u.machine c.first u.first c.output u.output c.texts r.0 c.answers u.keeps in
    record {
      first = c.first ++ u.first;
      later = u.later;
      parts = c.parts ∙ ap (λ l. c.first ++ l) u.parts ∙ sym (append_assoc c.first u.first u.later);
      output = c.output ++ u.output;
      texts = c.texts ++ r.0;
      machine = u.machine;
      answers = all;
      has_answered = IsFrontOf-trans _ _ _ c.answered (u.output, refl);
      ending = r.2;
      reads = r.4;
      undamaged = r.5;
      leads = Keeps-leads old u.machine (c.first ++ u.first) (c.output ++ u.output) (c.texts ++ r.0) all;
    }
