use Rattle.std.proofs.Common.{sym, subst}
use Rattle.sf_ruled_store.specs.Outcomes.{ruled}
use Rattle.sf_ruled_store.specs.Undos.{CanUndo, TakesBackUnder}
use Rattle.sf_ruled_store.specs.declared.redo.Redo.TheVariants as redos
use Rattle.sf_ruled_store.proofs.TurnLaws.{rule-back}
use Rattle.sf_ruled_store.proofs.undoing.take_back.Goals as goal

pub returns-in-Ok-put_back-clause-taken : goal.returns-in-Ok-put_back-clause-taken
returns-in-Ok-put_back-clause-taken c =
    let content = c.args.store.now in
    let rules = c.args.rules.now in
    let after = c.put_back.new.self in
    subst (λ undo. TakesBackUnder (ruled content rules) undo (redos.DropRule c.in-DroppedRule.place) (ruled content after)) (sym c.in-DroppedRule.is)
    (rule-back content rules after c.in-DroppedRule.place c.in-DroppedRule.rule c.requires.settled
    (subst (λ undo. CanUndo (ruled content rules) undo) c.in-DroppedRule.is c.requires.fits.can) c.in-Ok-put_back.ensures.put)
