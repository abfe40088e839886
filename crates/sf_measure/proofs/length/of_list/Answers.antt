use Rattle.std.proofs.Common.{◌∙◌, arith}
use Rattle.sf_measure.proofs.SumLaws.{step-parts}
use Rattle.sf_measure.proofs.length.of_list.Goals as goal

pub loop-to-preserved : goal.loop-to-preserved
loop-to-preserved c = record {
  whole =
      step-parts c.loop-to.from c.to-item.result c.in-Some.others.now c.loop-to.to-index c.loop-to.parts c.of_step-parts.result c.loop-to-test.true c.to-item.is c.of_step-parts.ensures.value
      ∙ c.loop-to.invariant.whole;
  small = omega (arith, c.of_step-parts.ensures.bound, c.loop-to.invariant.small);
}
