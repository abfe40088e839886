use Rattle.std.proofs.Common.{◌≡◌, ◌≤◌, ◌+◌, ◌*◌, ◌^◌, ap, sym, subst, ◌∙◌, List, ◌∷◌, drop, ℤ, ◌+ℤ◌, ◌-ℤ◌, ◌*ℤ◌, arith, rules, unsigned_abs, SFits, of_z, to_z}
use Rattle.std.specs.Int.{w128}
use Rattle.std.proofs.lemmas.Int.{to_z-of_z}
use Rattle.std.proofs.lemmas.List.{drop_all}
use Rattle.sf_grid.specs.Plane.{Coordinates}
use Rattle.sf_measure.specs.Areas.{shoelace, shoelace_from}
use Rattle.sf_measure.proofs.SumLaws.{int-assoc, int-zero, left-members}
use Rattle.sf_measure.proofs.area.shoelace.Goals as goal

pub loop-to-preserved : goal.loop-to-preserved
loop-to-preserved c =
    let others : List Coordinates = c.in-Some.others.now in
    let from : Coordinates = c.loop-to.from in
    let to : Coordinates = c.to-item.result in
    let rest : List Coordinates = drop (c.loop-to.to-index + 1) others in
    let next : drop c.loop-to.to-index others ≡ to ∷ rest = left-members others c.loop-to.to-index to c.loop-to-test.true c.to-item.is in
    let step : ℤ = from.x *ℤ to.y -ℤ from.y *ℤ to.x in
    let fits : SFits w128 c.with_step-sum.result = search rules in
    let is : to_z w128 (of_z w128 c.with_step-sum.result) ≡ c.with_step-sum.result = to_z-of_z w128 c.with_step-sum.result fits in
    let sum : ℤ = to_z w128 c.loop-to.sum-bits in
    record {
      whole =
          ap (λ z. z +ℤ shoelace_from to rest) (is ∙ c.with_step-sum.ensures.value)
          ∙ int-assoc sum step (shoelace_from to rest)
          ∙ ap (λ ps. sum +ℤ shoelace_from from ps) (sym next)
          ∙ c.loop-to.invariant.whole;
      small =
          subst (λ z. unsigned_abs z ≤ (c.loop-to.to-index + 1) * 2 ^ 61) (sym is) (omega (arith, c.with_step-sum.ensures.bound, c.loop-to.invariant.small));
    }

pub returns-clause-value : goal.returns-clause-value
returns-clause-value c =
    subst (λ ps. to_z w128 c.loop-to.sum-bits ≡ shoelace ps) (sym c.in-Some.ensures.cases.0)
    (int-zero (to_z w128 c.loop-to.sum-bits)
    ∙ ap (λ ps. to_z w128 c.loop-to.sum-bits +ℤ shoelace_from c.loop-to.from ps) (sym (drop_all c.loop-to.to-index c.in-Some.others.now c.loop-to-test.false))
    ∙ c.loop-to.invariant.whole)
