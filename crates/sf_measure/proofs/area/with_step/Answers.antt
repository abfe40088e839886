use Rattle.std.proofs.Common.{◌≡◌, ◌+ℤ◌, ◌-ℤ◌, ◌*ℤ◌, ◌∙◌, ap, arith, rules, SFits, w64}
use Rattle.std.specs.Int.{w128}
use Rattle.std.proofs.lemmas.Int.{ints, to_z-of_z}
use Rattle.sf_measure.proofs.area.with_step.Goals as goal

pub returns-clause-value : goal.returns-clause-value
returns-clause-value c =
    let sum : SFits w128 c.args.sum = c.ranges.sum in
    let step : SFits w64 c.step.result = search rules in
    let from : SFits w128 c.from.result = search rules in
    let is : c.from.result ≡ c.step.result = simp to_z-of_z at c.from.ensures in
    let value : c.step.result ≡ c.args.from.x *ℤ c.args.to.y -ℤ c.args.from.y *ℤ c.args.to.x = c.step.ensures.value in
    let total : SFits w128 (c.args.sum +ℤ c.from.result) = omega (arith, ints, c.requires, is, c.step.ensures.bound) in
    simp to_z-of_z (ap (λ z. c.args.sum +ℤ z) (is ∙ value))
