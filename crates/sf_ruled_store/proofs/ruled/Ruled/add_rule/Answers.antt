use Rattle.std.proofs.Common.{sym, subst}
use Rattle.sf_ruled_store.specs.Outcomes.{ruled}
use Rattle.sf_ruled_store.specs.Undos.{IsSettled}
use Rattle.sf_ruled_store.proofs.TurnLaws.{added-settled}
use Rattle.sf_ruled_store.proofs.ruled.Ruled.add_rule.Goals as goal

pub invariant_of-self-2 : goal.invariant_of-self-2
invariant_of-self-2 c =
    subst (λ rules. IsSettled (ruled c.self.inside.store rules)) (sym c.in_ok-add.ensures.added)
    (added-settled c.self.inside.store c.self.inside.rules c.args.rule _ c.self.invariant c.in_ok-add.ensures.accepted)
