use Rattle.std.proofs.Common.{sym, subst}
use Rattle.sf_ruled_store.specs.Outcomes.{ruled}
use Rattle.sf_ruled_store.specs.Ruled.{DropRule, ruled_step}
use Rattle.sf_ruled_store.specs.Undos.{IsLed, IsSettled}
use Rattle.sf_ruled_store.specs.declared.undo.Undo.TheVariants as undos
use Rattle.sf_ruled_store.proofs.TurnLaws.{dropped-led, removed-settled}
use Rattle.sf_ruled_store.proofs.ruled.Ruled.drop_rule.Goals as goal

pub invariant_of-self-2 : goal.invariant_of-self-2
invariant_of-self-2 c =
    subst (λ rules. IsSettled (ruled c.self.inside.store rules)) (sym c.in_ok-place.ensures.rest)
    (removed-settled c.self.inside.store c.self.inside.rules c.in_ok-place.place c.self.invariant)

pub returns-clause-accepted : goal.returns-clause-accepted
returns-clause-accepted c =
    let undo = undos.DroppedRule c.in_ok-place.place c.in_ok-place.rule in
    subst (λ old. IsLed old (ruled_step old (DropRule c.args.name.now)) undo (ruled c.self.inside.store c.remove.new.self)) c.self.view_is
    (dropped-led c.self.inside.store c.self.inside.rules c.remove.new.self c.args.name.now c.in_ok-place.place c.in_ok-place.rule c.self.invariant
    c.in_ok-place.ensures.removed c.in_ok-place.ensures.rest (c.in_ok-place.ensures.accepted c.self.inside.store))
