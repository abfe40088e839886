use Rattle.std.proofs.Common.{◌≡◌, ◌∙◌, ap, subst, sym}
use Rattle.std.specs.List.{AllByRecursion}
use Rattle.sf_steps.specs.Laws.{BringsGridPoints}
use Rattle.sf_validity.proofs.RuleLaws.{err-passed}
use Rattle.sf_groups.specs.declared.member.Member.{Member}
use Rattle.sf_groups.specs.Groups.{content_weight, together_touched}
use Rattle.sf_together.specs.Copies.{IsScratchOf}
use Rattle.sf_together.specs.Exchanges.{keys_in, halves_between}
use Rattle.sf_together.specs.Outcomes.{IsRefusedAs}
use Rattle.sf_together.specs.Plans.{IsPlan}
use Rattle.sf_together.proofs.CallLaws.{AllThere-part}
use Rattle.sf_together.proofs.CopyLaws.{IsPart-scratch}
use Rattle.sf_together.proofs.PlanLaws.{AllThere-after, planned, refused-alike}
use Rattle.sf_together.proofs.planning.plan.Goals as goal
use Rattle.sf_together.proofs.planning.plan.Goals.{After-is_well_formed-2}

-- the scratch store is one of the members
copied : (c : goal.After-is_well_formed-2) → IsScratchOf c.args.store.now c.into_members-members.result.items c.in_ok-scratch.scratch
copied c = subst (λ ms. IsScratchOf c.args.store.now ms c.in_ok-scratch.scratch) c.as_slice.ensures.value c.in_ok-scratch.ensures.copied

-- what the members bring is on the grid
brings : (c : goal.After-is_well_formed-2) → AllByRecursion (λ (member : Member). BringsGridPoints member.edit) c.into_members-members.result.items
brings c = subst (AllByRecursion (λ (member : Member). BringsGridPoints member.edit)) (sym c.into_members-members.ensures.members) c.brings_grid_points.ensures

pub keys_of-requires : goal.keys_of-requires
keys_of-requires c =
    AllThere-part c.args.store.now c.in_ok-scratch.scratch c.is_well_formed-2.ensures
    (IsPart-scratch c.args.store.now c.in_ok-scratch.scratch c.into_members-members.result.items (copied ((goal.at.keys_of-requires c).After-is_well_formed-2)))

pub returns-in_err-ids-clause-refused : goal.returns-in_err-ids-clause-refused
returns-in_err-ids-clause-refused c =
    let d = (goal.at.returns-in_err-ids-clause-refused c).After-is_well_formed-2 in
    err-passed c.from_residual-in_err-ids.result c.in_err-ids.field-0.0 (IsRefusedAs c.args.store.now c.args.group) c.from_residual-in_err-ids.ensures.1
    (subst (λ ms. IsRefusedAs c.args.store.now ms c.in_err-ids.field-0.0) c.into_members-members.ensures.members
    (refused-alike c.args.store.now c.in_ok-scratch.scratch c.into_members-members.result.items c.in_err-ids.field-0.0 c.into_members-members.ensures.group (brings d) c.is_well_formed.ensures c.is_well_formed-2.ensures
    (copied d) c.in_err-ids.ensures.refused))

pub halves_to-requires : goal.halves_to-requires
halves_to-requires c =
    AllThere-after c.args.store.now c.in_ok-scratch.scratch c.carry_out_all.new.scratch c.into_members-members.result.items c.in_ok-ids.ids.items c.into_members-members.ensures.group c.is_well_formed-2.ensures
    (copied ((goal.at.halves_to-requires c).After-is_well_formed-2)) c.in_ok-ids.ensures.carried

pub returns-clause-planned : goal.returns-clause-planned
returns-clause-planned c =
    let d = (goal.at.returns-clause-planned c).After-is_well_formed-2 in
    let holds : content_weight c.in_ok-scratch.scratch ≡ together_touched c.args.store.now c.into_members-members.result.items =
    c.in_ok-scratch.ensures.weight ∙ ap (together_touched c.args.store.now) c.as_slice.ensures.value in
    let halves_are : c.in_ok-halves.halves ≡ halves_between c.args.store.now c.carry_out_all.new.scratch (keys_in c.args.store.now c.in_ok-scratch.scratch) =
    c.in_ok-halves.ensures ∙ ap (halves_between c.args.store.now c.carry_out_all.new.scratch) (c.as_slice-2.ensures.value ∙ c.in_ok-keys.ensures) in
    subst (λ ms. IsPlan c.args.store.now ms c.in_ok-halves.halves c.in_ok-ids.ids.items) c.into_members-members.ensures.members
    (subst (λ p. IsPlan c.args.store.now c.into_members-members.result.items p c.in_ok-ids.ids.items) (sym halves_are)
    (planned c.args.store.now c.in_ok-scratch.scratch c.carry_out_all.new.scratch c.into_members-members.result.items c.in_ok-ids.ids.items c.into_members-members.ensures.group (brings d)
    c.is_well_formed.ensures c.is_well_formed-2.ensures (copied d) holds c.in_ok-ids.ensures.carried))
