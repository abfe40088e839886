use Rattle.sf_reach.proofs.AddedLaws.{added-one}
use Rattle.sf_reach.proofs.chains.add_all.Goals as goal

pub loop-id-preserved : goal.loop-id-preserved
loop-id-preserved c =
    added-one c.args.ids.now c.args.found.now c.loop-id.found c.add.new.self c.loop-id.id-index c.loop-id-test.true c.loop-id.invariant c.in_ok-add.ensures
