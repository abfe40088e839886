use Rattle.std.proofs.Common.{◌≡◌, ◌≤◌, ◌+ℤ◌, ◌-ℤ◌, ◌*ℤ◌, pos, true, false, unsigned_abs, arith, rules, sym, ◌∙◌, SFits, w64}
use Rattle.std.specs.Int.{w128}
use Rattle.std.specs.Ordering.{int_eq}
use Rattle.std.proofs.lemmas.Int.{ints, to_z-of_z}
use Rattle.sf_grid.specs.Bounds.{part_end, part_product_bound}
use Rattle.sf_grid.proofs.PartLaws.{carried-small, products-differ, products-equal}
use Rattle.sf_grid.proofs.exact.are_products_equal.Goals as goal

pub returns-then-is_nothing : goal.returns-then-is_nothing
returns-then-is_nothing c =
    let a_fits = c.ranges.a in
    let d_fits = c.ranges.d in
    let n_fits = c.ranges.n in
    let r_fits = c.ranges.r in
    let a_high : SFits w64 c.numerator_parts-a_high.result.0 = search rules in
    let a_low : SFits w64 c.numerator_parts-a_high.result.1 = search rules in
    let n_high : SFits w64 c.numerator_parts-n_high.result.0 = search rules in
    let n_low : SFits w64 c.numerator_parts-n_high.result.1 = search rules in
    let low : SFits w128 c.product_gap-low.result = search rules in
    let carried : SFits w128 c.parted-carried.result.0 = search rules in
    let rest : SFits w64 c.parted-carried.result.1 = search rules in
    let a_is : c.args.a ≡ c.numerator_parts-a_high.result.0 *ℤ pos part_end +ℤ c.numerator_parts-a_high.result.1 =
    omega (arith, ints, c.numerator_parts-a_high.ensures.value) in
    let n_is : c.args.n ≡ c.numerator_parts-n_high.result.0 *ℤ pos part_end +ℤ c.numerator_parts-n_high.result.1 =
    omega (arith, ints, c.numerator_parts-n_high.ensures.value) in
    let low_is : c.product_gap-low.result ≡ c.numerator_parts-a_high.result.1 *ℤ c.args.d -ℤ c.numerator_parts-n_high.result.1 *ℤ c.args.r =
    simp to_z-of_z at c.product_gap-low.ensures.value in
    let value : c.product_gap-low.result ≡ c.parted-carried.result.0 *ℤ pos part_end +ℤ c.parted-carried.result.1 =
    omega (arith, ints, c.parted-carried.ensures.value) in
    let carried_is_small : unsigned_abs c.parted-carried.result.0 ≤ part_product_bound =
    carried-small c.product_gap-low.result c.parted-carried.result.0 c.parted-carried.result.1 c.product_gap-low.ensures.bound value c.parted-carried.ensures.from c.parted-carried.ensures.below in
    let told : c.is_nothing.result ≡ int_eq c.parted-carried.result.1 (pos 0) = simp to_z-of_z at c.is_nothing.ensures in
    let is = sym told ∙ c.if-is_nothing.true in
    let balanced : c.is_gap_balanced.result
    ≡ int_eq ((c.numerator_parts-a_high.result.0 *ℤ c.args.d -ℤ c.numerator_parts-n_high.result.0 *ℤ c.args.r) +ℤ c.parted-carried.result.0) (pos 0) =
    simp to_z-of_z at c.is_gap_balanced.ensures in
    balanced
    ∙ products-equal c.args.a c.args.d c.args.n c.args.r
    c.numerator_parts-a_high.result.0 c.numerator_parts-a_high.result.1 c.numerator_parts-n_high.result.0 c.numerator_parts-n_high.result.1
    c.product_gap-low.result c.parted-carried.result.0 c.parted-carried.result.1
    a_is n_is low_is value is

pub returns-else-is_nothing : goal.returns-else-is_nothing
returns-else-is_nothing c =
    let a_fits = c.ranges.a in
    let d_fits = c.ranges.d in
    let n_fits = c.ranges.n in
    let r_fits = c.ranges.r in
    let a_high : SFits w64 c.numerator_parts-a_high.result.0 = search rules in
    let a_low : SFits w64 c.numerator_parts-a_high.result.1 = search rules in
    let n_high : SFits w64 c.numerator_parts-n_high.result.0 = search rules in
    let n_low : SFits w64 c.numerator_parts-n_high.result.1 = search rules in
    let low : SFits w128 c.product_gap-low.result = search rules in
    let carried : SFits w128 c.parted-carried.result.0 = search rules in
    let rest : SFits w64 c.parted-carried.result.1 = search rules in
    let a_is : c.args.a ≡ c.numerator_parts-a_high.result.0 *ℤ pos part_end +ℤ c.numerator_parts-a_high.result.1 =
    omega (arith, ints, c.numerator_parts-a_high.ensures.value) in
    let n_is : c.args.n ≡ c.numerator_parts-n_high.result.0 *ℤ pos part_end +ℤ c.numerator_parts-n_high.result.1 =
    omega (arith, ints, c.numerator_parts-n_high.ensures.value) in
    let low_is : c.product_gap-low.result ≡ c.numerator_parts-a_high.result.1 *ℤ c.args.d -ℤ c.numerator_parts-n_high.result.1 *ℤ c.args.r =
    simp to_z-of_z at c.product_gap-low.ensures.value in
    let value : c.product_gap-low.result ≡ c.parted-carried.result.0 *ℤ pos part_end +ℤ c.parted-carried.result.1 =
    omega (arith, ints, c.parted-carried.ensures.value) in
    let told : c.is_nothing.result ≡ int_eq c.parted-carried.result.1 (pos 0) = simp to_z-of_z at c.is_nothing.ensures in
    let differs = sym told ∙ c.if-is_nothing.false in
    c.if-is_nothing.false
    ∙ products-differ c.args.a c.args.d c.args.n c.args.r
    c.numerator_parts-a_high.result.0 c.numerator_parts-a_high.result.1 c.numerator_parts-n_high.result.0 c.numerator_parts-n_high.result.1
    c.product_gap-low.result c.parted-carried.result.0 c.parted-carried.result.1
    a_is n_is low_is value c.parted-carried.ensures.from c.parted-carried.ensures.below differs
