use Rattle.std.proofs.Common.{◌≡◌, ◌^◌, pos, ◌-ℤ◌, ◌*ℤ◌, false, arith, rules, SFits, w32, w64}
use Rattle.std.specs.Int.{int_div_euclid}
use Rattle.std.specs.Ordering.{int_eq}
use Rattle.std.proofs.lemmas.Int.{ints, to_z-of_z}
use Rattle.sf_along.specs.Runs.{rise_of, width_of}
use Rattle.sf_along.proofs.NumberLaws.{apart, slanted-slope}
use Rattle.sf_along.proofs.run.slope.Goals as goal

pub returns : goal.returns
returns c =
    let x : SFits w32 c.x.result = search rules in
    let x_2 : SFits w32 c.x-2.result = search rules in
    let x_3 : SFits w32 c.x-3.result = search rules in
    let x_4 : SFits w32 c.x-4.result = search rules in
    let y : SFits w32 c.y.result = search rules in
    let y_2 : SFits w32 c.y-2.result = search rules in
    let width : SFits w64 c.difference-width.result = search rules in
    let rise : SFits w64 c.difference-rise.result = search rules in
    let product : SFits w64 (c.difference-rise.result *ℤ pos (2 ^ 31)) = omega (arith, ints, c.difference-rise.ensures.bound) in
    let quotient : SFits w64 c.div_euclid.result = search rules in
    let width_is : c.difference-width.result ≡ c.x-3.result -ℤ c.x-4.result = simp to_z-of_z at c.difference-width.ensures.value in
    let rise_is : c.difference-rise.result ≡ c.y.result -ℤ c.y-2.result = simp to_z-of_z at c.difference-rise.ensures.value in
    let quotient_is : c.div_euclid.result ≡ int_div_euclid (c.difference-rise.result *ℤ pos (2 ^ 31)) c.difference-width.result = simp to_z-of_z at c.div_euclid.ensures in
    let width_of_ends : c.difference-width.result ≡ width_of c.args.left c.args.right = cc in
    let rise_of_ends : c.difference-rise.result ≡ rise_of c.args.left c.args.right = cc in
    let apart_ends : int_eq c.args.left.x c.args.right.x ≡ false =
    apart c.x.result c.x-2.result c.args.left.x c.args.right.x c.x.ensures.value c.x-2.ensures.value c.if-x.false in
    simp to_z-of_z (slanted-slope c.args.left c.args.right c.difference-width.result c.difference-rise.result c.div_euclid.result apart_ends width_of_ends rise_of_ends quotient_is)
