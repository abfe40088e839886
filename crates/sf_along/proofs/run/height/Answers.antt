use Rattle.std.proofs.Common.{◌≡◌, ◌^◌, pos, ◌-ℤ◌, ◌*ℤ◌, false, arith, rules, SFits, w32, w64}
use Rattle.std.specs.Int.{int_div_euclid}
use Rattle.std.specs.Ordering.{int_eq}
use Rattle.std.proofs.lemmas.Int.{ints, to_z-of_z}
use Rattle.sf_along.specs.Runs.{width_of}
use Rattle.sf_along.proofs.NumberLaws.{apart, slanted-height}
use Rattle.sf_along.proofs.run.height.Goals as goal

pub returns : goal.returns
returns c =
    let x : SFits w32 c.x.result = search rules in
    let x_2 : SFits w32 c.x-2.result = search rules in
    let x_3 : SFits w32 c.x-3.result = search rules in
    let x_4 : SFits w32 c.x-4.result = search rules in
    let width : SFits w64 c.difference-width.result = search rules in
    let offset : SFits w64 c.offset.result = search rules in
    let product : SFits w64 (c.offset.result *ℤ pos 2) = omega (arith, ints, c.offset.ensures.bound) in
    let quotient : SFits w64 c.div_euclid.result = search rules in
    let width_is : c.difference-width.result ≡ c.x-3.result -ℤ c.x-4.result = simp to_z-of_z at c.difference-width.ensures.value in
    let quotient_is : c.div_euclid.result ≡ int_div_euclid (c.offset.result *ℤ pos 2) c.difference-width.result = simp to_z-of_z at c.div_euclid.ensures in
    let width_of_ends : c.difference-width.result ≡ width_of c.args.left c.args.right = cc in
    let apart_ends : int_eq c.args.left.x c.args.right.x ≡ false =
    apart c.x.result c.x-2.result c.args.left.x c.args.right.x c.x.ensures.value c.x-2.ensures.value c.if-x.false in
    simp to_z-of_z (slanted-height c.args.left c.args.right c.difference-width.result c.offset.result c.div_euclid.result apart_ends width_of_ends c.offset.ensures.value quotient_is)
