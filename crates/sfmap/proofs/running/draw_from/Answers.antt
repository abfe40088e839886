use Rattle.sfmap.proofs.Ends.{breaks-drawn}
use Rattle.sfmap.proofs.running.draw_from.Goals as goal

pub returns-in-Ok-clause-fault : goal.returns-in-Ok-clause-fault
returns-in-Ok-clause-fault g c =
    breaks-drawn c.draw_store.result c.in-Ok.ruled c.store.result.now _ _ c.args.choice.now c.args.width _ _ c.in-Ok.ensures.ok c.store.ensures c.draw_store.ensures.fault
