use Rattle.std.proofs.Common.{◌≡◌, ◌++◌, ℕ, List, sym, subst, ap, ◌∙◌}
use Rattle.sf_ruled_store.specs.Changes.{OfGroup}
use Rattle.sf_groups.specs.Members.{ids_given}
use Rattle.sf_ruled_store.specs.Outcomes.{IsRefusedAs, ruled}
use Rattle.sf_ruled_store.specs.Ruled.{OfChange, ruled_step}
use Rattle.sf_ruled_store.specs.Undos.{IsGrouped, alone}
use Rattle.sf_ruled_store.proofs.CallLaws.{alone-grouped, unseen-refused}
use Rattle.sf_ruled_store.proofs.edits.carry_out_alone.Goals as goal

pub returns-in-Ok-clause-accepted : goal.returns-in-Ok-clause-accepted
returns-in-Ok-clause-accepted c =
    let old = c.args.store.now in
    let new = c.carry_out_unseen.new.store in
    let rules = c.args.rules.now in
    let answer = c.in-Ok.field-0.answer in
    let undo = c.in-Ok.field-0.undo in
    let ids : c.put_id.new.ids.items ≡ ids_given answer = c.put_id.ensures ∙ ap (λ (earlier : List ℕ). earlier ++ ids_given answer) c.in_ok-ids.ensures.items in
    subst (λ given. IsGrouped (ruled old rules) (alone c.args.edit) given undo (ruled new rules)) (sym ids)
    (alone-grouped old new rules c.args.edit answer undo c.requires.unseen c.in-Ok.ensures.accepted)

pub returns-in-Err-clause-refused : goal.returns-in-Err-clause-refused
returns-in-Err-clause-refused c =
    let old = c.args.store.now in
    let rules = c.args.rules.now in
    subst (λ given. IsRefusedAs (ruled_step (ruled old rules) (OfChange (OfGroup (alone c.args.edit)))) given) (sym c.as_member.ensures)
    (unseen-refused old rules c.args.edit c.in-Err.refusal c.requires.unseen c.in-Err.ensures.refused)
