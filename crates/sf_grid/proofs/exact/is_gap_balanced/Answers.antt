use Rattle.std.proofs.Common.{◌≡◌, ◌+ℤ◌, ◌-ℤ◌, ◌*ℤ◌, pos, ap, arith, rules, ◌∙◌, SFits}
use Rattle.std.specs.Int.{w128}
use Rattle.std.specs.Ordering.{int_eq}
use Rattle.std.proofs.lemmas.Int.{ints, to_z-of_z}
use Rattle.sf_grid.proofs.exact.is_gap_balanced.Goals as goal

pub returns : goal.returns
returns c =
    let a_fits = c.ranges.a in
    let d_fits = c.ranges.d in
    let n_fits = c.ranges.n in
    let r_fits = c.ranges.r in
    let carried_fits = c.ranges.carried in
    let high : SFits w128 c.product_gap-high.result = search rules in
    let fits : SFits w128 (c.product_gap-high.result +ℤ c.args.carried) =
    omega (arith, ints, c.product_gap-high.ensures.bound, c.requires.carried_small) in
    let value : c.product_gap-high.result ≡ c.args.a *ℤ c.args.d -ℤ c.args.n *ℤ c.args.r = simp to_z-of_z at c.product_gap-high.ensures.value in
    let told : c.is_zero.result ≡ int_eq (c.product_gap-high.result +ℤ c.args.carried) (pos 0) = simp to_z-of_z at c.is_zero.ensures in
    told ∙ ap (λ z. int_eq (z +ℤ c.args.carried) (pos 0)) value
