use Rattle.std.proofs.Common.{◌∙◌, ap, length, arith}
use Rattle.sf_measure.proofs.SumLaws.{left-count, list-parts}
use Rattle.sf_measure.proofs.length.of_lists.Goals as goal

pub loop-points-preserved : goal.loop-points-preserved
loop-points-preserved c = record {
  whole =
      list-parts c.args.lists.now c.loop-points.points-index c.points-item.result c.as_slice.result.now c.loop-points.parts c.of_list-parts.result c.loop-points-test.true c.points-item.is c.as_slice.ensures
      c.of_list-parts.ensures.value
      ∙ c.loop-points.invariant.whole;
  small = omega (
    arith,
    ap length c.as_slice.ensures,
    c.of_list-parts.ensures.bound,
    left-count c.args.lists.now c.loop-points.points-index c.points-item.result c.loop-points-test.true c.points-item.is,
    c.loop-points.invariant.small,
  );
}
