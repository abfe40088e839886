-- From moment to moment of a session that is kept.
use Rattle.std.proofs.Common.{◌≡◌, ℕ, List, [], ◌∷◌, ◌++◌, refl, ap, ◌∙◌, subst, append_assoc, append-nil}
use Rattle.sf_journal.specs.Records.{records, sum_behind}
use Rattle.sf_journal.specs.Fronts.{IsFrontOf}
use Rattle.sf_journal.proofs.FrontLaws.{records-append}
use Rattle.sf_console.specs.History.{Machine}
use Rattle.sf_console.specs.Requests.{Request}
use Rattle.sf_keeping.specs.Desks.{Call, Standing, nothing_yet, after_call, after_calls}
use Rattle.sf_keeping.specs.Kept.{Keeps}
use Rattle.sf_keeping.specs.Moments.{IsCovered, AtEachMoment}
use Rattle.sf_keeping.proofs.KeptLaws.{Keeps-append, IsFrontOf-trans}

-- calls behind others
pub after_calls-append : (standing : Standing) (calls more : List Call) → after_calls standing (calls ++ more) ≡ after_calls (after_calls standing calls) more
after_calls-append standing [] more = refl
after_calls-append standing (call ∷ calls) more = after_calls-append (after_call standing call) calls more

-- what stands in front of more than the last call stands in front of those before it
front_of_snoc : (before : List Call) (a : Call) (after calls : List Call) (c : Call) → calls ++ c ∷ [] ≡ before ++ a ∷ after → (rest : List Call) × (calls ≡ before ++ rest)
front_of_snoc [] a after calls c is = (calls, refl)
front_of_snoc (x ∷ []) a after [] c is = absurd (none is)
  where
    none : c ∷ [] ≡ x ∷ a ∷ after → ⊥
    none h = cc
front_of_snoc (x ∷ y ∷ before) a after [] c is = absurd (none is)
  where
    none : c ∷ [] ≡ x ∷ y ∷ before ++ a ∷ after → ⊥
    none h = cc
front_of_snoc (x ∷ before) a after (y ∷ calls) c is =
    let found = front_of_snoc before a after calls c (tail_eq is) in
    (found.0, ap (λ l. l ∷ calls) (head_eq is) ∙ ap (λ l. x ∷ l) found.1)
  where
    head_eq : y ∷ calls ++ c ∷ [] ≡ x ∷ before ++ a ∷ after → y ≡ x
    head_eq h = cc

    tail_eq : y ∷ calls ++ c ∷ [] ≡ x ∷ before ++ a ∷ after → calls ++ c ∷ [] ≡ before ++ a ∷ after
    tail_eq h = cc

-- one moment more
pub moments-snoc : (sum : ℕ) (old : Machine) (asked : List Request) (last : Machine) (calls : List Call) (call : Call)
    → AtEachMoment sum old asked last calls → IsCovered sum old asked last (after_calls nothing_yet (calls ++ call ∷ []))
    → AtEachMoment sum old asked last (calls ++ call ∷ [])
moments-snoc sum old asked last calls call moments covered before [] is =
    subst (λ l. IsCovered sum old asked last (after_calls nothing_yet l)) (is ∙ append-nil before) covered
moments-snoc sum old asked last calls call moments covered before (a ∷ after) is =
    let found = front_of_snoc before a after calls call is in moments before found.0 found.1

-- a front of records is one of more records
IsFrontOf-records : (bytes : List ℕ) (sum : ℕ) (texts more : List (List ℕ)) → IsFrontOf bytes (records sum texts) → IsFrontOf bytes (records sum (texts ++ more))
IsFrontOf-records bytes sum texts more front =
    IsFrontOf-trans bytes (records sum texts) (records sum (texts ++ more)) front (records (sum_behind sum texts) more, records-append sum texts more)

-- with more requests it stays so
pub covered-more : (sum : ℕ) (old : Machine) (asked : List Request) (last : Machine) (standing : Standing) (more : List Request) (output : List ℕ) (texts : List (List ℕ)) (new : Machine)
    → IsCovered sum old asked last standing → Keeps last more output texts new → IsCovered sum old (asked ++ more) new standing
covered-more sum old asked last standing more output texts new c keeps =
    record {
      first = c.first;
      later = c.later ++ more;
      parts = ap (λ l. l ++ more) c.parts ∙ append_assoc c.first c.later more;
      output = c.output;
      texts = c.texts;
      mid = c.mid;
      answers = c.answers;
      later_output = c.later_output ++ output;
      later_texts = c.later_texts ++ texts;
      rest = Keeps-append c.mid last new c.later more c.later_output output c.later_texts texts c.rest keeps;
      answered = c.answered;
      kept = c.kept;
      journal = subst (λ t. IsFrontOf (standing.kept ++ standing.waiting) (records sum t)) (append_assoc c.texts c.later_texts texts)
          (IsFrontOf-records (standing.kept ++ standing.waiting) sum (c.texts ++ c.later_texts) texts c.journal);
    }

pub moments-more : (sum : ℕ) (old : Machine) (asked : List Request) (last : Machine) (calls : List Call) (more : List Request) (output : List ℕ) (texts : List (List ℕ)) (new : Machine)
    → AtEachMoment sum old asked last calls → Keeps last more output texts new → AtEachMoment sum old (asked ++ more) new calls
moments-more sum old asked last calls more output texts new moments keeps before after is =
    covered-more sum old asked last (after_calls nothing_yet before) more output texts new (moments before after is) keeps
