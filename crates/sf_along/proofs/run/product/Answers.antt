use Rattle.std.proofs.Common.{lit<, w64}
use Rattle.std.proofs.lemmas.Int.{to_z-of_z, fits_signed_mul, unsigned_abs-mul}
use native.Mathlib.Nat.{mul-le-mul}
use Rattle.sf_grid.specs.Bounds.{coordinate_bound, difference_bound}
use Rattle.sf_along.proofs.run.product.Goals as goal

pub returns-clause-value : goal.returns-clause-value
returns-clause-value c =
    let a_fits = c.ranges.a in
    let b_fits = c.ranges.b in
    let product_fits = fits_signed_mul w64 c.args.a c.args.b coordinate_bound difference_bound c.requires.first_small c.requires.second_small (lit< tt) in
    simp to_z-of_z

pub returns-clause-bound : goal.returns-clause-bound
returns-clause-bound c =
    let a_fits = c.ranges.a in
    let b_fits = c.ranges.b in
    let product_fits = fits_signed_mul w64 c.args.a c.args.b coordinate_bound difference_bound c.requires.first_small c.requires.second_small (lit< tt) in
    simp (to_z-of_z, unsigned_abs-mul) (mul-le-mul c.requires.first_small c.requires.second_small)
