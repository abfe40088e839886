use Rattle.std.proofs.Common.{◌≡◌, ◌+ℤ◌, ◌*ℤ◌, arith, rules, SFits, w64}
use Rattle.std.proofs.lemmas.Int.{ints, to_z-of_z}
use Rattle.sf_distance.proofs.edges.sum_of_products.Goals as goal

pub overflow_add-result : goal.overflow_add-result
overflow_add-result c =
    let f : SFits w64 c.product.result = search rules in
    let g : SFits w64 c.product-2.result = search rules in
    simp to_z-of_z (omega (arith, ints, c.product.ensures.bound, c.product-2.ensures.bound))

pub returns-clause-bound : goal.returns-clause-bound
returns-clause-bound c =
    let f : SFits w64 c.product.result = search rules in
    let g : SFits w64 c.product-2.result = search rules in
    let s : SFits w64 (c.product.result +ℤ c.product-2.result) =
    omega (arith, ints, c.product.ensures.bound, c.product-2.ensures.bound) in
    simp to_z-of_z (omega (arith, ints, c.product.ensures.bound, c.product-2.ensures.bound))

pub returns-clause-value : goal.returns-clause-value
returns-clause-value c =
    let f : SFits w64 c.product.result = search rules in
    let g : SFits w64 c.product-2.result = search rules in
    let s : SFits w64 (c.product.result +ℤ c.product-2.result) =
    omega (arith, ints, c.product.ensures.bound, c.product-2.ensures.bound) in
    let a = c.ranges.a in
    let b = c.ranges.b in
    let e = c.ranges.c in
    let d = c.ranges.d in
    let v : c.product.result ≡ c.args.a *ℤ c.args.b = simp to_z-of_z at c.product.ensures.value in
    let v2 : c.product-2.result ≡ c.args.c *ℤ c.args.d = simp to_z-of_z at c.product-2.ensures.value in
    simp to_z-of_z (cc)
