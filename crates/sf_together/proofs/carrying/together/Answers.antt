use Rattle.sf_together.proofs.PlanLaws.{accepts-plan}
use Rattle.sf_together.proofs.carrying.together.Goals as goal

pub returns-clause-accepted : goal.returns-clause-accepted
returns-clause-accepted c =
    accepts-plan c.args.store.now c.exchange.new.store c.args.group c.in_ok-ids.field-0.halves c.exchange.new.self c.in_ok-ids.field-0.ids.items c.in_ok-ids.ensures.planned c.in_ok-exchange.ensures.exchanged
    c.in_ok-exchange.ensures.back
