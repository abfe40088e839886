use Rattle.std.proofs.Common.{◌≡◌, ◌∙◌, ◌+◌, ◌++◌, ◌∷◌, [], ap, subst, sym, take}
use Rattle.std.proofs.lemmas.List.{take_all, take_more}
use Rattle.sf_steps.specs.Steps.{edit_layer}
use Rattle.sf_groups.specs.Groups.{content_weight, together_touched}
use Rattle.sf_together.specs.Copies.{IsScratchOf}
use Rattle.sf_together.proofs.CallLaws.{IsWellFormed-with_head}
use Rattle.sf_together.proofs.CopyLaws.{IsPart-scratch, IsScratchOf-none, IsScratchOf-shown}
use Rattle.sf_together.proofs.WeightLaws.{scratch-weight, touched-none}
use Rattle.sf_together.proofs.scratch.scratch_for.Goals as goal

pub loop-member-init : goal.loop-member-init
loop-member-init c =
    (subst (IsScratchOf c.args.store.now []) (sym c.new-scratch.ensures) (IsScratchOf-none c.args.store.now), ap content_weight c.new-scratch.ensures ∙ sym (touched-none c.args.store.now))

pub loop-member-preserved : goal.loop-member-preserved
loop-member-preserved c =
    let more : take (c.loop-member.member-index + 1) c.args.members.now ≡ take c.loop-member.member-index c.args.members.now ++ c.member-item.result ∷ [] =
    take_more c.args.members.now c.loop-member.member-index c.member-item.result c.loop-member-test.true
    ∙ ap (λ m. take c.loop-member.member-index c.args.members.now ++ m ∷ []) (sym c.member-item.is) in (
      subst (λ ms. IsScratchOf c.args.store.now ms c.show.new.scratch) (sym more)
          (subst (IsScratchOf c.args.store.now (take c.loop-member.member-index c.args.members.now ++ c.member-item.result ∷ [])) (sym c.in_ok-show.ensures)
          (IsScratchOf-shown c.args.store.now c.loop-member.scratch (take c.loop-member.member-index c.args.members.now) c.member-item.result c.loop-member.invariant.0)),
      ap content_weight c.in_ok-show.ensures
          ∙ scratch-weight c.args.store.now c.loop-member.scratch (take c.loop-member.member-index c.args.members.now) c.member-item.result c.is_well_formed.ensures
          (λ w found.
          IsWellFormed-with_head c.args.store.now c.loop-member.scratch (edit_layer c.member-item.result.edit) w c.is_well_formed.ensures c.is_well_formed-in-loop-member.ensures
          (IsPart-scratch c.args.store.now c.loop-member.scratch (take c.loop-member.member-index c.args.members.now) c.loop-member.invariant.0) found)
          c.loop-member.invariant.0 c.loop-member.invariant.1
          ∙ ap (together_touched c.args.store.now) (sym more),
    )

pub returns-clause-copied : goal.returns-clause-copied
returns-clause-copied c =
    subst (λ ms. IsScratchOf c.args.store.now ms c.loop-member.scratch) (take_all c.loop-member.member-index c.args.members.now c.loop-member-test.false) c.loop-member.invariant.0

pub returns-clause-weight : goal.returns-clause-weight
returns-clause-weight c = c.loop-member.invariant.1 ∙ ap (together_touched c.args.store.now) (take_all c.loop-member.member-index c.args.members.now c.loop-member-test.false)
