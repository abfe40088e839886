use Rattle.std.proofs.Common.{◌∙◌, ap, length, arith}
use Rattle.sf_geometry.specs.Parts.{joined}
use Rattle.sf_measure.proofs.SumLaws.{left-count_twice, polygon-parts}
use Rattle.sf_measure.proofs.length.of_polygons.Goals as goal

pub loop-rings-preserved : goal.loop-rings-preserved
loop-rings-preserved c = record {
  whole =
      polygon-parts c.args.polygons.now c.loop-rings.rings-index c.rings-item.result c.as_slice.result.now c.loop-rings.parts c.of_lists-parts.result c.loop-rings-test.true c.rings-item.is c.as_slice.ensures
      c.of_lists-parts.ensures.value
      ∙ c.loop-rings.invariant.whole;
  small = omega (
    arith,
    ap (λ rings. length (joined rings)) c.as_slice.ensures,
    c.of_lists-parts.ensures.bound,
    left-count_twice c.args.polygons.now c.loop-rings.rings-index c.rings-item.result c.loop-rings-test.true c.rings-item.is,
    c.loop-rings.invariant.small,
  );
}
