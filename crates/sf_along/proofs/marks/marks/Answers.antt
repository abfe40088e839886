use Rattle.std.proofs.Common.{◌≡◌, ◌<◌, ◌+◌, ◌∙◌, ap, subst, sym, length, set, take, true, arith}
use Rattle.std.proofs.lemmas.List.{length-set, take_all}
use Rattle.sf_along.specs.declared.run.TheConstants.{PLACES}
use Rattle.sf_along.specs.Marks.{AreMarks, place_of}
use Rattle.sf_along.proofs.MarkLaws.{asked-of, marked-other, marked-set, none-marked}
use Rattle.sf_along.proofs.marks.marks.Goals as goal
use Rattle.sf_along.proofs.marks.marks.Goals.{then-run-is_first, else-run-is_first}

pub loop-run-preserved : goal.loop-run-preserved
loop-run-preserved c =
    let runs = c.args.runs.now in
    let is_first = c.args.is_first in
    let old = c.loop-run.marks.items in
    let run = c.run-item.result in
    elim c.if-run-is_first.branch [
      | then-run-is_first w ↦
          let place = place_of run in
          let items : c.if-run-is_first.marks.items ≡ set old place true = ap (λ v. v.items) w.marks-is ∙ ap (λ n. set old n true) w.place.ensures.value in
          let within : place < length old = subst (λ n. n < length old) w.place.ensures.value (subst (λ n. w.place.result < n) (sym c.loop-run.invariant.0) w.place.ensures.within) in (
            ap length items ∙ length-set old place true ∙ c.loop-run.invariant.0,
            subst (λ marks. AreMarks marks is_first (take (c.loop-run.run-index + 1) runs)) (sym items)
                (marked-set old is_first runs c.loop-run.run-index run c.loop-run-test.true c.run-item.is within (sym (asked-of run is_first) ∙ w.if-run-is_first.true) c.loop-run.invariant.1),
          )
      | else-run-is_first w ↦ (
        ap (λ v. length v.items) w.marks-is ∙ c.loop-run.invariant.0,
        subst (λ v. AreMarks v.items is_first (take (c.loop-run.run-index + 1) runs)) (sym w.marks-is)
            (marked-other old is_first runs c.loop-run.run-index run c.loop-run-test.true c.run-item.is (sym (asked-of run is_first) ∙ w.if-run-is_first.false) c.loop-run.invariant.1),
      )
    ]

pub loop-run-init : goal.loop-run-init
loop-run-init c = none-marked c.args.is_first PLACES c.in_ok-marks.marks.items (c.in_ok-marks.ensures.items_if_clones_equal (λ y same. same))

pub returns : goal.returns
returns c =
    let runs = c.args.runs.now in
    let test = c.loop-run-test.false in
    subst (AreMarks c.loop-run.marks.items c.args.is_first) (take_all c.loop-run.run-index runs (omega (arith, test))) c.loop-run.invariant.1
