use Rattle.std.proofs.Common.{◌≡◌, ◌∙◌, ap, sym, subst, true, false}
use Rattle.std.specs.List.{filter}
use Rattle.std.proofs.lemmas.Result.{IfOk-weaker}
use Rattle.sf_along.specs.Marks.{AreMarks, KeepPairs, may_go}
use Rattle.sf_along.proofs.MarkLaws.{kept-pairs, may_go-filter}
use Rattle.sf_along.proofs.marks.without_lone.Goals as goal

pub returns-clause-pairs : goal.returns-clause-pairs
returns-clause-pairs c =
    let runs = c.args.runs.items in
    let first = c.as_slice-4.result.now in
    let second = c.as_slice-5.result.now in
    let of_first : AreMarks first true runs =
    subst (λ marks. AreMarks marks true runs) (sym c.as_slice-4.ensures.value) (subst (AreMarks c.in_ok-of_first.of_first.items true) c.as_slice.ensures.value c.in_ok-of_first.ensures) in
    let of_second : AreMarks second false runs =
    subst (λ marks. AreMarks marks false runs) (sym c.as_slice-5.ensures.value) (subst (AreMarks c.in_ok-of_second.of_second.items false) c.as_slice-2.ensures.value c.in_ok-of_second.ensures) in
    IfOk-weaker c.kept.result (λ kept. kept.items ≡ filter (may_go first second) c.as_slice-3.result.now) (λ kept. KeepPairs runs kept.items)
    (λ kept is. subst (KeepPairs runs) (sym (is ∙ ap (filter (may_go first second)) c.as_slice-3.ensures.value ∙ may_go-filter first second runs of_first of_second)) (kept-pairs runs))
    c.kept.ensures
