use Rattle.std.proofs.Common.{◌≡◌, ◌+ℤ◌, ◌*ℤ◌, ◌-ℤ◌, arith, rules, unsigned_abs, SFits, w32, w64}
use Rattle.std.proofs.lemmas.Int.{ints, to_z-of_z}
use Rattle.sf_measure.proofs.length.square_of.Goals as goal

pub overflow_add-product : goal.overflow_add-product
overflow_add-product c =
    let f : SFits w64 c.product.result = search rules in
    let g : SFits w64 c.product-2.result = search rules in
    simp to_z-of_z (omega (arith, ints, c.product.ensures.bound, c.product-2.ensures.bound))

pub returns-clause-value : goal.returns-clause-value
returns-clause-value c =
    let fits_x : SFits w64 c.difference-x.result = search rules in
    let fits_y : SFits w64 c.difference-y.result = search rules in
    let fits_first : SFits w64 c.product.result = search rules in
    let fits_second : SFits w64 c.product-2.result = search rules in
    let fits_sum : SFits w64 (c.product.result +ℤ c.product-2.result) = omega (arith, ints, c.product.ensures.bound, c.product-2.ensures.bound) in
    let fits_to_x : SFits w32 c.x.result = search rules in
    let fits_from_x : SFits w32 c.x-2.result = search rules in
    let fits_to_y : SFits w32 c.y.result = search rules in
    let fits_from_y : SFits w32 c.y-2.result = search rules in
    let x : c.difference-x.result ≡ c.x.result -ℤ c.x-2.result = simp to_z-of_z at c.difference-x.ensures.value in
    let y : c.difference-y.result ≡ c.y.result -ℤ c.y-2.result = simp to_z-of_z at c.difference-y.ensures.value in
    let first : c.product.result ≡ c.difference-x.result *ℤ c.difference-x.result = simp to_z-of_z at c.product.ensures.value in
    let second : c.product-2.result ≡ c.difference-y.result *ℤ c.difference-y.result = simp to_z-of_z at c.product-2.ensures.value in
    let size : c.unsigned_abs.result ≡ unsigned_abs (c.product.result +ℤ c.product-2.result) = simp to_z-of_z at c.unsigned_abs.ensures.value in
    cc
