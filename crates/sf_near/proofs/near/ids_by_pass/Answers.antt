use Rattle.std.proofs.Common.{◌≡◌, ◌∷◌, ℕ}
use Rattle.std.proofs.lemmas.Map.Iter.{rest_more}
use Rattle.std.specs.Map.Iter.{deref_pair}
use Rattle.sf_distance.specs.Reaches.{square_of_reach}
use Rattle.sf_features.specs.Features.{FeatureContent}
use Rattle.sf_near.proofs.FeatureLaws.{passes, told-passes}
use Rattle.sf_near.proofs.PassLaws.{passed-one, passed-other}
use Rattle.sf_near.proofs.near.ids_by_pass.Goals as goal
use Rattle.sf_near.proofs.near.ids_by_pass.Goals.{In-Some}

-- the features that were left are this one and those that are left then
turn : (c : In-Some) → c.loop-id.id-iterator ≡ (c.in-Some.id.now, c.in-Some.feature.now) ∷ c.next.new.self
turn c = rest_more (deref_pair {K = ℕ} {X = FeatureContent}) _ _ _ (c.in-Some.id, c.in-Some.feature) c.in-Some.is c.next.ensures.steps

pub loop-id-preserved-in-Continue-branch-2 : goal.loop-id-preserved-in-Continue-branch-2
loop-id-preserved-in-Continue-branch-2 c =
    let bound = square_of_reach c.args.around.now.reach in
    let b = c.args.around.now.geometry in
    passed-one (passes bound b) c.args.layer.now.features c.loop-id.id-iterator c.next.new.self (c.in-Some.id.now, c.in-Some.feature.now) c.loop-id.ids.items c.push.new.self.items
    (turn (goal.at.loop-id-preserved-in-Continue-branch-2 c).In-Some)
    (told-passes bound c.valid.result.now b (c.in-Some.id.now, c.in-Some.feature.now) c.in_ok-has_part_of.field-0 _ c.in_ok-has_part_of.ensures c.valid.ensures.same c.if-branch.true)
    c.in_ok-push.ensures.items c.loop-id.invariant

pub loop-id-preserved : goal.loop-id-preserved
loop-id-preserved c =
    let bound = square_of_reach c.args.around.now.reach in
    let b = c.args.around.now.geometry in
    passed-other (passes bound b) c.args.layer.now.features c.loop-id.id-iterator c.next.new.self (c.in-Some.id.now, c.in-Some.feature.now) c.loop-id.ids.items
    (turn (goal.at.loop-id-preserved c).In-Some)
    (told-passes bound c.valid.result.now b (c.in-Some.id.now, c.in-Some.feature.now) c.in_ok-has_part_of.field-0 _ c.in_ok-has_part_of.ensures c.valid.ensures.same c.if-branch.false)
    c.loop-id.invariant
