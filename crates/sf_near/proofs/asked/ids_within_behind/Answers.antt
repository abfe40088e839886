use Rattle.std.proofs.Common.{◌≡◌, ◌∙◌, IfOk, IsSome, nat_lt, subst, sym}
use Rattle.std.specs.List.{AllByRecursion}
use Rattle.sf_geometry.specs.Envelope.{envelope_of}
use Rattle.sf_distance.specs.Reaches.{steps_of_reach}
use Rattle.sf_layers.specs.Content.{feature_of}
use Rattle.sf_query.proofs.FilterLaws.{each-filter}
use Rattle.sf_near.specs.Grown.{grown}
use Rattle.sf_near.proofs.AskedLaws.{behind-within}
use Rattle.sf_near.proofs.FeatureLaws.{AreByBoxes, are-by-boxes, boxes-there}
use Rattle.sf_near.proofs.asked.ids_within_behind.Goals as goal
use Rattle.sf_near.proofs.asked.ids_within_behind.Goals.{After-as_slice}

-- what the index gave are the identifiers of the features whose boxes meet the grown one
by : (c : After-as_slice) → AreByBoxes c.args.layer.now (grown (steps_of_reach c.args.around.now.reach) (envelope_of c.args.around.now.geometry)) c.as_slice.result.now
by c =
    are-by-boxes c.args.layer.now (grown (steps_of_reach c.args.around.now.reach) (envelope_of c.args.around.now.geometry)) c.in-Some.index.now c.as_slice.result.now c.requires
    (c.as_slice.ensures.value ∙ c.in_ok-near-in-Some.ensures.ids) c.in-Some.ensures

pub ids_among-requires : goal.ids_among-requires
ids_among-requires c =
    subst (λ ids. AllByRecursion (λ id. IsSome (feature_of c.args.layer.now id)) ids) (sym (c.as_slice-in-Some.ensures.value ∙ c.in_ok-behind-in-Some.ensures))
    (each-filter (λ other. nat_lt c.args.id other) (λ id. IsSome (feature_of c.args.layer.now id)) c.as_slice.result.now
    (boxes-there c.args.layer.now (grown (steps_of_reach c.args.around.now.reach) (envelope_of c.args.around.now.geometry)) c.as_slice.result.now (by (goal.at.ids_among-requires c).After-as_slice)))

pub returns-in_ok-behind-in-Some : goal.returns-in_ok-behind-in-Some
returns-in_ok-behind-in-Some c =
    subst (λ items. IfOk c.ids_among.result (λ ids. ids.items ≡ items))
    (behind-within c.args.layer.now c.args.around.now.geometry c.args.around.now.reach c.as_slice.result.now c.as_slice-in-Some.result.now c.args.id
    (by (goal.at.returns-in_ok-behind-in-Some c).After-as_slice) c.near_ids.ensures.held
    (c.as_slice-in-Some.ensures.value ∙ c.in_ok-behind-in-Some.ensures))
    c.ids_among.ensures
