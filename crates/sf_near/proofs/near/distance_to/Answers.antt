use Rattle.std.proofs.Common.{sym}
use Rattle.sf_layers.specs.Content.{layer_of}
use Rattle.sf_near.proofs.FeatureLaws.{measured}
use Rattle.sf_near.proofs.near.distance_to.Goals as goal

pub returns : goal.returns
returns c =
    measured (layer_of c.args.store.now c.args.layer.now) c.in-Some.layer.now c.args.id c.in-Some-feature.feature.now c.valid.result.now c.args.given.now c.in_ok-square_between.field-0
    (sym c.in-Some.ensures.found) (sym c.in-Some-feature.ensures) c.valid.ensures.same c.in_ok-square_between.ensures.least c.in_ok-square_between.ensures.equal
