use Rattle.std.proofs.Common.{sym, subst, ap, ◌∙◌}
use Rattle.sf_ruled_store.specs.Changes.{OfEdit, OfGroup}
use Rattle.sf_ruled_store.specs.Outcomes.{IsRefusedAs, answer_of, ruled}
use Rattle.sf_ruled_store.specs.Ruled.{OfChange, ruled_step}
use Rattle.sf_ruled_store.specs.Undos.{IsEdited, IsGrouped, alone}
use Rattle.sf_ruled_store.proofs.CallLaws.{seen-edited, seen-refused}
use Rattle.sf_ruled_store.proofs.edits.carry_out_as_group.Goals as goal

pub returns-in-Ok-clause-accepted : goal.returns-in-Ok-clause-accepted
returns-in-Ok-clause-accepted c =
    let old = c.args.store.now in
    let new = c.carry_out_several.new.store in
    let rules = c.args.rules.now in
    let ids = c.in-Ok.field-0.ids.items in
    let undo = c.in-Ok.field-0.undo in
    let grouped : IsGrouped (ruled old rules) (alone c.args.edit) ids undo (ruled new rules) =
    subst (λ members. IsGrouped (ruled old rules) members ids undo (ruled new rules)) c.in_ok-group.ensures c.in-Ok.ensures.accepted in
    subst (λ answer. IsEdited (ruled old rules) c.args.edit answer undo (ruled new rules))
    (sym (c.answer_of.ensures ∙ ap answer_of c.as_slice.ensures.value))
    (seen-edited old new rules c.args.edit ids undo c.requires.of_features grouped)

pub returns-in-Err-clause-refused : goal.returns-in-Err-clause-refused
returns-in-Err-clause-refused c =
    let old = c.args.store.now in
    let rules = c.args.rules.now in
    let refusal = c.in-Err.refusal in
    subst (λ given. IsRefusedAs (ruled_step (ruled old rules) (OfChange (OfEdit c.args.edit))) given) (sym c.as_edit.ensures)
    (seen-refused old rules c.args.edit refusal c.requires.of_features
    (subst (λ members. IsRefusedAs (ruled_step (ruled old rules) (OfChange (OfGroup members))) refusal) c.in_ok-group.ensures c.in-Err.ensures.refused))
