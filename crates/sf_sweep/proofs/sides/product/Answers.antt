use Rattle.std.proofs.Common.{arith, lit<, ◌^◌}
use Rattle.std.specs.Int.{w128}
use Rattle.std.proofs.lemmas.Int.{to_z-of_z, fits_signed_mul, unsigned_abs-mul}
use native.Mathlib.Nat.{mul-le-mul}
use Rattle.sf_grid.specs.Bounds.{difference_bound}
use Rattle.sf_sweep.proofs.sides.product.Goals as goal

pub returns-clause-value : goal.returns-clause-value
returns-clause-value c =
    let a_fits = c.ranges.a in
    let b_fits = c.ranges.b in
    let product_fits = fits_signed_mul w128 c.args.a c.args.b difference_bound (2 ^ 94) c.requires.first_small c.requires.second_small (lit< tt) in
    simp to_z-of_z

pub returns-clause-bound : goal.returns-clause-bound
returns-clause-bound c =
    let a_fits = c.ranges.a in
    let b_fits = c.ranges.b in
    let product_fits = fits_signed_mul w128 c.args.a c.args.b difference_bound (2 ^ 94) c.requires.first_small c.requires.second_small (lit< tt) in
    simp (to_z-of_z, unsigned_abs-mul) (mul-le-mul c.requires.first_small (omega arith))
