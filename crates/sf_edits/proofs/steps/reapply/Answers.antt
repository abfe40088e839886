use Rattle.std.proofs.Common.{Ok}
use Rattle.sf_edits.proofs.Carrying.{Carries-weight}
use Rattle.sf_edits.proofs.steps.reapply.Goals as goal

pub returns-clause-weight : goal.returns-clause-weight
returns-clause-weight c = Carries-weight c.args.store.now c.carry_out_again.new.store c.args.reverted (Ok c.in_ok-inverse.inverse) c.in_ok-inverse.ensures.again.carried_out
