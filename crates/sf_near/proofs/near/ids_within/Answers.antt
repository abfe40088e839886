use Rattle.std.proofs.Common.{◌≡◌, ◌∙◌, IfOk, subst}
use Rattle.sf_geometry.specs.Envelope.{envelope_of}
use Rattle.sf_distance.specs.Reaches.{steps_of_reach}
use Rattle.sf_near.specs.Grown.{grown}
use Rattle.sf_near.proofs.FeatureLaws.{AreByBoxes, are-by-boxes, boxes-there, boxes-within}
use Rattle.sf_near.proofs.near.ids_within.Goals as goal
use Rattle.sf_near.proofs.near.ids_within.Goals.{After-as_slice}

-- what the index gave are the identifiers of the features whose boxes meet the grown one
by : (c : After-as_slice) → AreByBoxes c.args.layer.now (grown (steps_of_reach c.args.around.now.reach) (envelope_of c.args.around.now.geometry)) c.as_slice.result.now
by c =
    are-by-boxes c.args.layer.now (grown (steps_of_reach c.args.around.now.reach) (envelope_of c.args.around.now.geometry)) c.in-Some.index.now c.as_slice.result.now c.requires
    (c.as_slice.ensures.value ∙ c.in_ok-near-in-Some.ensures.ids) c.in-Some.ensures

pub ids_among-requires : goal.ids_among-requires
ids_among-requires c = boxes-there c.args.layer.now (grown (steps_of_reach c.args.around.now.reach) (envelope_of c.args.around.now.geometry)) c.as_slice.result.now (by c)

pub returns-in_ok-near-in-Some : goal.returns-in_ok-near-in-Some
returns-in_ok-near-in-Some c =
    subst (λ items. IfOk c.ids_among.result (λ ids. ids.items ≡ items))
    (boxes-within c.args.layer.now c.args.around.now.geometry c.args.around.now.reach c.as_slice.result.now (by (goal.at.returns-in_ok-near-in-Some c).After-as_slice) c.near_ids.ensures.held)
    c.ids_among.ensures
