use Rattle.std.proofs.Common.{sym, subst}
use Rattle.sf_ruled_store.specs.Outcomes.{ruled}
use Rattle.sf_ruled_store.specs.Undos.{MakesAgainUnder}
use Rattle.sf_ruled_store.specs.declared.undo.Undo.TheVariants as undos
use Rattle.sf_ruled_store.proofs.TurnLaws.{drop-again}
use Rattle.sf_ruled_store.proofs.redoing.make_again.Goals as goal

pub returns-in-DropRule-clause-made : goal.returns-in-DropRule-clause-made
returns-in-DropRule-clause-made c =
    let content = c.args.store.now in
    let rules = c.args.rules.now in
    let after = c.take_at-rule.new.self in
    subst (λ redo. MakesAgainUnder (ruled content rules) redo (undos.DroppedRule c.in-DropRule.place c.take_at-rule.result) (ruled content after)) (sym c.in-DropRule.is)
    (drop-again content rules after c.in-DropRule.place c.take_at-rule.result c.requires.settled c.take_at-rule.ensures.taken c.take_at-rule.ensures.rest)
