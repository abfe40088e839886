use Rattle.std.proofs.Common.{◌≡◌, IfOk, subst}
use Rattle.sf_steps.specs.Inverses.{weight}
use Rattle.sf_steps.specs.Weights.{touched}
use Rattle.sf_edits.proofs.Carrying.{Carries-weight}
use Rattle.sf_edits.proofs.steps.apply.Goals as goal

pub returns-clause-weight : goal.returns-clause-weight
returns-clause-weight c =
    subst (λ r. IfOk r (λ inverse. weight inverse ≡ touched c.args.store.now c.args.edit)) c.in_ok-inverse.was
    (Carries-weight c.args.store.now c.carry_out.new.store c.args.edit c.carry_out.result c.carry_out.ensures)
