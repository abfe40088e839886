use Rattle.std.proofs.Common.{◌≡◌, ◌∙◌, ap, pos, ◌-ℤ◌, arith, rules, SFits, w32, w64}
use Rattle.std.specs.Int.{int_max}
use Rattle.std.proofs.lemmas.Int.{clamps, ints, to_z-of_z}
use Rattle.sf_edge_distance.proofs.boxes.gap_of.Goals as goal
use Rattle.sf_edge_distance.proofs.boxes.gap_of.Goals.{After-positive}

record Read (c : After-positive) : Type 0 where
  number : pos c.positive.result ≡ int_max (pos 0) c.greater.result
  most : c.greater.result ≡ int_max c.difference-after.result c.difference-before.result
  after : c.difference-after.result ≡ c.args.other_low -ℤ c.args.high
  before : c.difference-before.result ≡ c.args.low -ℤ c.args.other_high

read : (c : After-positive) → Read c
read c =
    let low : SFits w32 c.args.low = search rules in
    let high : SFits w32 c.args.high = search rules in
    let other_low : SFits w32 c.args.other_low = search rules in
    let other_high : SFits w32 c.args.other_high = search rules in
    let most : SFits w64 c.greater.result = search rules in
    let after : SFits w64 c.difference-after.result = search rules in
    let before : SFits w64 c.difference-before.result = search rules in
    record {
      number = simp to_z-of_z at c.positive.ensures;
      most = simp to_z-of_z at c.greater.ensures;
      after = simp to_z-of_z at c.difference-after.ensures.value;
      before = simp to_z-of_z at c.difference-before.ensures.value;
    }

pub returns-clause-value : goal.returns-clause-value
returns-clause-value c =
    let r = read (goal.at.returns-clause-value c).After-positive in
    r.number ∙ ap (int_max (pos 0)) (r.most ∙ ap (λ z. int_max z c.difference-before.result) r.after ∙ ap (int_max (c.args.other_low -ℤ c.args.high)) r.before)

pub returns-clause-small : goal.returns-clause-small
returns-clause-small c =
    let r = read (goal.at.returns-clause-small c).After-positive in
    omega (arith, ints, clamps, r.number, r.most, c.difference-after.ensures.high, c.difference-before.ensures.high)
