use Rattle.std.proofs.Common.{◌∙◌, ap, sym}
use Rattle.std.specs.Prelude.{bytes_eq}
use Rattle.sf_layers.specs.Content.{layer_of}
use Rattle.sf_near.proofs.Passed.{layer-fits}
use Rattle.sf_near.proofs.FeatureLaws.{geometries-valid}
use Rattle.sf_joins.specs.Joins.{pairs_found}
use Rattle.sf_joins.proofs.LoopLaws.{is-join}
use Rattle.sf_joins.proofs.joining.join.Goals as goal

pub pairs_of-requires : goal.pairs_of-requires
pairs_of-requires c = layer-fits c.args.store.now c.args.second.now c.in-Some-layer.other.now c.in-Some-layer.ensures.well_formed (sym c.in-Some-layer.ensures.found)

pub returns : goal.returns
returns c =
    let own = layer-fits c.args.store.now c.args.first.now c.in-Some.own.now c.in-Some.ensures.well_formed (sym c.in-Some.ensures.found) in
    let other = layer-fits c.args.store.now c.args.second.now c.in-Some-layer.other.now c.in-Some-layer.ensures.well_formed (sym c.in-Some-layer.ensures.found) in
    is-join (bytes_eq c.args.first.now c.args.second.now) (layer_of c.args.store.now c.args.first.now) (layer_of c.args.store.now c.args.second.now) c.in-Some.own.now c.in-Some-layer.other.now
    c.args.ask.now _ (sym c.in-Some.ensures.found) (sym c.in-Some-layer.ensures.found) own.rising other.rising (geometries-valid c.in-Some.own.now own) (geometries-valid c.in-Some-layer.other.now other)
    (c.in_ok-pairs.ensures ∙ ap (λ one. pairs_found one c.in-Some.own.now c.args.ask.now c.in-Some-layer.other.now) c.eq-one.ensures)
