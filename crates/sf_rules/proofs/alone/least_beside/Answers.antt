use Rattle.sf_rules.specs.Looks.{alone_at}
use Rattle.sf_rules.proofs.LoopLaws.{flat-more}
use Rattle.sf_rules.proofs.alone.least_beside.Goals as goal

pub loop-id-preserved : goal.loop-id-preserved
loop-id-preserved c =
    flat-more (alone_at c.args.between.now) c.as_slice-id-items.result.now c.loop-id.id-index _ c.args.least c.loop-id.least c.in_ok-least.least c.loop-id-test.true
    c.loop-id.invariant c.in_ok-least.ensures
