use Rattle.std.proofs.Common.{◌≡◌, ◌*ℤ◌, ◌≤◌, pos, lit<, ap, sym, subst, ◌∙◌, rules, SFits}
use Rattle.std.specs.Int.{w128}
use Rattle.std.specs.Prelude.{unsigned_abs}
use Rattle.std.proofs.lemmas.Int.{to_z-of_z, fits_signed_mul}
use Rattle.sf_decimals.proofs.comparing.product.Goals as goal

pub overflow_mul-result : goal.overflow_mul-result
overflow_mul-result c =
    let a_fits = c.ranges.a in
    let f : SFits w128 c.from.result = search rules in
    let g : SFits w128 c.from-2.result = search rules in
    let a_is : c.from.result ≡ c.args.a = simp to_z-of_z at c.from.ensures in
    let is : c.from.result *ℤ c.from-2.result ≡ c.args.a *ℤ pos c.args.b = ap (λ z. z *ℤ c.from-2.result) a_is ∙ ap (λ z. c.args.a *ℤ z) c.from-2.ensures in
    let small : unsigned_abs c.args.a ≤ 9223372036854775808 = search rules in
    let fits = fits_signed_mul w128 c.args.a (pos c.args.b) 9223372036854775808 1000000000000000000 small c.requires (lit< tt) in
    simp to_z-of_z (subst (SFits w128) (sym is) fits)
