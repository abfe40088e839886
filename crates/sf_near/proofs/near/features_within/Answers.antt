use Rattle.std.proofs.Common.{◌∙◌, ap, sym}
use Rattle.sf_distance.specs.Reaches.{square_of_reach}
use Rattle.sf_layers.specs.Content.{layer_of}
use Rattle.sf_query.proofs.QueryLaws.{layer-fits}
use Rattle.sf_near.specs.Answers.{ids_within}
use Rattle.sf_near.specs.Surrounding.{Surrounding}
use Rattle.sf_near.proofs.FeatureLaws.{found-within}
use Rattle.sf_near.proofs.near.features_within.Goals as goal

pub ids_within-requires : goal.ids_within-requires
ids_within-requires c = layer-fits c.args.store.now c.args.layer.now c.in-Some.layer.now c.in-Some.ensures.well_formed (sym c.in-Some.ensures.found)

pub returns : goal.returns
returns c =
    found-within (layer_of c.args.store.now c.args.layer.now) c.in-Some.layer.now (square_of_reach c.args.reach) c.args.given.now c.in_ok-ids_within.field-0 (sym c.in-Some.ensures.found)
    (layer-fits c.args.store.now c.args.layer.now c.in-Some.layer.now c.in-Some.ensures.well_formed (sym c.in-Some.ensures.found)) c.new.ensures.held.valid
    (c.in_ok-ids_within.ensures ∙ ap (λ (s : Surrounding). ids_within c.in-Some.layer.now (square_of_reach s.reach) s.geometry) c.in_ok-around.ensures.same)
