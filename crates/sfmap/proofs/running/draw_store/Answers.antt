use Rattle.std.proofs.Common.{sym}
use Rattle.sfmap.proofs.Ends.{ends-missing}
use Rattle.sfmap.proofs.running.draw_store.Goals as goal

pub returns-in-Some-clause-fault : goal.returns-in-Some-clause-fault
returns-in-Some-clause-fault g c =
    ends-missing c.missing.result c.in-Some.name.now c.args.choice.now c.args.store.now c.args.width _ c.missing.ensures (sym c.in-Some.ensures)
