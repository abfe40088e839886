use Rattle.std.proofs.Common.{◌≡◌, ◌-ℤ◌, ◌*ℤ◌, arith, rules, SFits, w32, w64}
use Rattle.std.proofs.lemmas.Int.{ints, to_z-of_z}
use Rattle.sf_along.proofs.run.offset.Goals as goal

pub overflow_sub-result : goal.overflow_sub-result
overflow_sub-result c =
    let f : SFits w64 c.product.result = search rules in
    let g : SFits w64 c.product-2.result = search rules in
    simp to_z-of_z (omega (arith, ints, c.product.ensures.bound, c.product-2.ensures.bound))

pub returns-clause-bound : goal.returns-clause-bound
returns-clause-bound c =
    let f : SFits w64 c.product.result = search rules in
    let g : SFits w64 c.product-2.result = search rules in
    let s : SFits w64 (c.product.result -ℤ c.product-2.result) = omega (arith, ints, c.product.ensures.bound, c.product-2.ensures.bound) in
    simp to_z-of_z (omega (arith, ints, c.product.ensures.bound, c.product-2.ensures.bound))

pub returns-clause-value : goal.returns-clause-value
returns-clause-value c =
    let x : SFits w32 c.x.result = search rules in
    let x_2 : SFits w32 c.x-2.result = search rules in
    let x_3 : SFits w32 c.x-3.result = search rules in
    let y : SFits w32 c.y.result = search rules in
    let y_2 : SFits w32 c.y-2.result = search rules in
    let y_3 : SFits w32 c.y-3.result = search rules in
    let width : SFits w64 c.difference-width.result = search rules in
    let rise : SFits w64 c.difference-rise.result = search rules in
    let from : SFits w64 c.from.result = search rules in
    let from_2 : SFits w64 c.from-2.result = search rules in
    let f : SFits w64 c.product.result = search rules in
    let g : SFits w64 c.product-2.result = search rules in
    let s : SFits w64 (c.product.result -ℤ c.product-2.result) = omega (arith, ints, c.product.ensures.bound, c.product-2.ensures.bound) in
    let first_is : c.product.result ≡ c.from.result *ℤ c.difference-width.result = simp to_z-of_z at c.product.ensures.value in
    let second_is : c.product-2.result ≡ c.from-2.result *ℤ c.difference-rise.result = simp to_z-of_z at c.product-2.ensures.value in
    let width_is : c.difference-width.result ≡ c.x.result -ℤ c.x-2.result = simp to_z-of_z at c.difference-width.ensures.value in
    let rise_is : c.difference-rise.result ≡ c.y.result -ℤ c.y-2.result = simp to_z-of_z at c.difference-rise.ensures.value in
    let from_is : c.from.result ≡ c.y-3.result = simp to_z-of_z at c.from.ensures in
    let from_is_2 : c.from-2.result ≡ c.x-3.result = simp to_z-of_z at c.from-2.ensures in
    simp to_z-of_z (cc)
