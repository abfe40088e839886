use Rattle.std.proofs.Common.{sym, subst}
use Rattle.sf_ruled_store.specs.declared.edits.Edited.{Edited}
use Rattle.sf_ruled_store.specs.Outcomes.{ruled}
use Rattle.sf_ruled_store.specs.Undos.{IsEdited}
use Rattle.sf_ruled_store.proofs.CallLaws.{unseen-edited}
use Rattle.sf_ruled_store.proofs.edits.carry_out_unseen.Goals as goal

pub returns-in-Ok-clause-accepted : goal.returns-in-Ok-clause-accepted
returns-in-Ok-clause-accepted c =
    let old = c.args.store.now in
    let new = c.apply.new.store in
    let rules = c.args.rules.now in
    subst (λ (done : Edited). IsEdited (ruled old rules) c.args.edit done.answer done.undo (ruled new rules)) (sym c.accepted.ensures)
    (unseen-edited old new rules c.args.edit c.in-Ok.inverse c.is_well_formed.ensures c.requires.settled c.requires.unseen c.in-Ok.ensures.carried_out.accepted)
