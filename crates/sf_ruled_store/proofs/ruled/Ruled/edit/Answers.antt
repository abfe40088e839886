use Rattle.sf_ruled_store.specs.Outcomes.{ruled}
use Rattle.sf_ruled_store.proofs.RuleNames.{edited-settled}
use Rattle.sf_ruled_store.proofs.ruled.Ruled.edit.Goals as goal

pub invariant_of-self : goal.invariant_of-self
invariant_of-self c =
    let now = c.carry_out_ruled.new in
    edited-settled c.carry_out_ruled.result (ruled c.self.inside.store c.self.inside.rules) c.args.edit now.store now.rules c.self.invariant
    c.carry_out_ruled.ensures.accepted c.carry_out_ruled.ensures.unchanged c.carry_out_ruled.ensures.kept
