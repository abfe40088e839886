use Rattle.std.proofs.Common.{sym, subst, ◌∙◌}
use Rattle.sf_steps.specs.Inverses.{answer_of}
use Rattle.sf_ruled_store.specs.declared.undo.Undo.TheVariants as undos
use Rattle.sf_ruled_store.specs.Outcomes.{ruled}
use Rattle.sf_ruled_store.specs.Undos.{IsEdited}
use Rattle.sf_ruled_store.proofs.CallLaws.{renaming-edited}
use Rattle.sf_ruled_store.proofs.edits.rename.Goals as goal

pub returns-in-Ok-clause-accepted : goal.returns-in-Ok-clause-accepted
returns-in-Ok-clause-accepted c =
    let old = c.args.store.now in
    let new = c.apply.new.store in
    let rules = c.args.rules.now in
    let inverse = c.in-Ok.inverse in
    subst (λ answer. IsEdited (ruled old rules) c.args.edit answer (undos.Renamed inverse c.swap.new.y) (ruled new c.swap.new.x)) (sym c.answer.ensures)
    (subst (λ kept. IsEdited (ruled old rules) c.args.edit (answer_of inverse) (undos.Renamed inverse kept) (ruled new c.swap.new.x)) (sym c.swap.ensures.y_after)
    (renaming-edited old new rules c.swap.new.x c.args.edit inverse c.requires.renaming (c.swap.ensures.x_after ∙ c.requires.renamed) c.requires.settled c.in-Ok.ensures.carried_out.accepted))
