use Rattle.std.proofs.Common.{sym}
use Rattle.sf_layers.specs.Content.{layer_of}
use Rattle.sf_query.proofs.QueryLaws.{layer-fits, queried}
use Rattle.sf_query.proofs.queries.query.Goals as goal

pub features_asked-requires : goal.features_asked-requires
features_asked-requires c = layer-fits c.args.store.now c.args.layer.now c.in-Some.layer.now c.in-Some.ensures.well_formed (sym c.in-Some.ensures.found)

pub returns : goal.returns
returns c =
    queried (layer_of c.args.store.now c.args.layer.now) c.in-Some.layer.now c.args.ask.now c.args.given.now c.in_ok-features_asked.field-0 (sym c.in-Some.ensures.found)
    (layer-fits c.args.store.now c.args.layer.now c.in-Some.layer.now c.in-Some.ensures.well_formed (sym c.in-Some.ensures.found)) c.in_ok-features_asked.ensures
