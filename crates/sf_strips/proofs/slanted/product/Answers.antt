use Rattle.std.proofs.Common.{lit<, w64}
use Rattle.std.proofs.lemmas.Int.{fits_signed_mul, to_z-of_z}
use Rattle.sf_grid.specs.Bounds.{difference_bound}
use Rattle.sf_strips.proofs.slanted.product.Goals as goal

pub returns : goal.returns
returns c =
    let a_fits = c.ranges.a in
    let b_fits = c.ranges.b in
    let product_fits = fits_signed_mul w64 c.args.a c.args.b difference_bound difference_bound c.requires.first_small c.requires.second_small (lit< tt) in
    simp to_z-of_z
