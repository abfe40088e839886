use Rattle.std.proofs.Common.{◌≡◌, ◌≤◌, ◌-◌, ◌^◌, lit<, arith, subst, sym, ap, ◌∙◌}
use Rattle.std.proofs.Math.Nat.{pow-le-pow_right}
use Rattle.sf_decimals.specs.Decimals.{places_max}
use Rattle.sf_decimals.proofs.comparing.weight.Goals as goal

pub returns-clause-bound : goal.returns-clause-bound
returns-clause-bound c =
    let few : places_max - c.args.places ≤ places_max = omega arith in
    let is : c.pow.result ≡ 10 ^ (places_max - c.args.places) = c.pow.ensures ∙ ap (λ k. 10 ^ k) c.from.ensures in
    subst (λ n. n ≤ 10 ^ places_max) (sym is) (pow-le-pow_right {n = 10} (lit< tt) few)
