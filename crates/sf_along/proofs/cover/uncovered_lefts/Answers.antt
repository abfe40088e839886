use Rattle.std.proofs.Common.{◌≡◌, ◌++◌, ◌∷◌, ◌∙◌, [], ap, arith, subst, sym}
use Rattle.std.specs.List.{AllByRecursion}
use Rattle.std.proofs.lemmas.Bool.{both_ways}
use Rattle.std.proofs.lemmas.List.{take_all}
use Rattle.sf_along.specs.Covers.{AreCovered, IsLeft}
use Rattle.sf_along.proofs.CoverLaws.{IsOfSecond, among-runs, covered-more, in-last, kept-last, left-more, no-more}
use Rattle.sf_along.proofs.cover.uncovered_lefts.Goals as goal
use Rattle.sf_along.proofs.cover.uncovered_lefts.Goals.{then-not-run, else-not-run+then-not-is_in+in_ok-push, else-not-run+else-not-is_in}

pub loop-run-preserved : goal.loop-run-preserved
loop-run-preserved c =
    let runs = c.args.runs.now in
    let n = c.loop-run.run-index in
    let run = c.run-item.result in
    let before = c.loop-run.invariant in
    let within = c.loop-run-test.true in
    elim c.if-not-run.branch [
      | then-not-run w ↦ record {
        last =
            subst (IsOfSecond runs) (sym w.last-is)
            (kept-last runs c.loop-run.last run w.ending_last.result (among-runs runs n run within c.run-item.is) w.if-not-run.true w.ending_last.ensures before.last);
        covered = λ none.
            covered-more runs n run within c.run-item.is (λ t. absurd (both_ways run.is_first w.if-not-run.true t))
            (before.covered (sym (ap (λ v. v.items) w.ends-is) ∙ none));
        ends = subst (λ v. AllByRecursion (IsLeft runs) v.items) (sym w.ends-is) before.ends;
      }
      | else-not-run+then-not-is_in+in_ok-push w ↦
          let items : c.if-not-run.ends.items ≡ c.loop-run.ends.items ++ run.left ∷ [] = ap (λ v. v.items) w.ends-is ∙ w.in_ok-push.ensures.items in record {
            last = subst (IsOfSecond runs) (sym w.last-is) before.last;
            covered = λ none. absurd (no-more c.loop-run.ends.items run.left (sym items ∙ none));
            ends =
                subst (AllByRecursion (IsLeft runs)) (sym items)
                (left-more runs n run within c.run-item.is c.loop-run.ends.items w.if-not-run.false before.ends);
          }
      | else-not-run+else-not-is_in w ↦ record {
        last = subst (IsOfSecond runs) (sym w.last-is) before.last;
        covered = λ none.
            covered-more runs n run within c.run-item.is (λ t. in-last runs c.loop-run.last run before.last (sym w.is_in.ensures ∙ w.if-not-is_in.false))
            (before.covered (sym (ap (λ v. v.items) w.ends-is) ∙ none));
        ends = subst (λ v. AllByRecursion (IsLeft runs) v.items) (sym w.ends-is) before.ends;
      }
    ]

pub returns-clause-covered : goal.returns-clause-covered
returns-clause-covered c =
    let runs = c.args.runs.now in
    let test = c.loop-run-test.false in
    λ none. subst (AreCovered runs) (take_all c.loop-run.run-index runs (omega (arith, test))) (c.loop-run.invariant.covered none)
