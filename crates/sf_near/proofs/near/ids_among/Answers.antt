use Rattle.std.proofs.Common.{◌≡◌, ◌∙◌, Some, get_or, option_copied, ap, sym}
use Rattle.std.specs.Prelude.{IsSome}
use Rattle.std.proofs.lemmas.List.Elements.{All-from_recursion, All-get_or}
use Rattle.sf_distance.specs.Reaches.{square_of_reach}
use Rattle.sf_layers.specs.Content.{feature_of}
use Rattle.sf_query.proofs.FilterLaws.{kept-more, passed-more}
use Rattle.sf_query.proofs.QueryLaws.{some-copied}
use Rattle.sf_near.specs.Answers.{is_within_at}
use Rattle.sf_near.proofs.FeatureLaws.{there-within}
use Rattle.sf_near.proofs.near.ids_among.Goals as goal
use Rattle.sf_near.proofs.near.ids_among.Goals.{After-unwrap-feature, else-branch, then-branch+in_ok-push}

-- the feature of the next identifier
feature : (c : After-unwrap-feature) → feature_of c.args.layer.now (get_or c.args.near.now c.loop-id.id-index 0) ≡ Some c.unwrap-feature.result.now
feature c = sym c.feature.ensures ∙ ap option_copied c.unwrap-feature.ensures

pub unwrap-feature-requires : goal.unwrap-feature-requires
unwrap-feature-requires c =
    some-copied c.feature.result _ c.feature.ensures
    (All-get_or (λ id. IsSome (feature_of c.args.layer.now id)) c.args.near.now c.loop-id.id-index 0 c.loop-id-test.true
    (All-from_recursion (λ id. IsSome (feature_of c.args.layer.now id)) c.args.near.now c.requires))

pub loop-id-preserved : goal.loop-id-preserved
loop-id-preserved c =
    let at = goal.at.loop-id-preserved c in
    let items = c.args.near.now in
    let bound = square_of_reach c.args.around.now.reach in
    let test = is_within_at c.args.layer.now bound c.args.around.now.geometry in
    let same = there-within c.args.layer.now bound c.valid.result.now c.args.around.now.geometry (get_or items c.loop-id.id-index 0) c.unwrap-feature.result.now c.in_ok-has_part_of.field-0
    (feature at.After-unwrap-feature) c.in_ok-has_part_of.ensures c.valid.ensures.same in
    elim c.if-branch.branch [
      | then-branch+in_ok-push w ↦
          kept-more test items c.loop-id.id-index 0 c.loop-id.ids.items c.if-branch.ids.items c.loop-id-test.true c.loop-id.invariant (same ∙ w.if-branch.true)
          (ap (λ v. v.items) w.ids-is ∙ w.in_ok-push.ensures.items)
      | else-branch w ↦
          ap (λ v. v.items) w.ids-is
          ∙ passed-more test items c.loop-id.id-index 0 c.loop-id.ids.items c.loop-id-test.true c.loop-id.invariant (same ∙ w.if-branch.false)
    ]
