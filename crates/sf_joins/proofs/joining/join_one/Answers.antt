use Rattle.std.proofs.Common.{◌∙◌, ap, filter, nat_eq, sym}
use Rattle.std.specs.Prelude.{bytes_eq}
use Rattle.sf_layers.specs.Content.{layer_of}
use Rattle.sf_near.proofs.Passed.{layer-fits}
use Rattle.sf_near.proofs.FeatureLaws.{geometries-valid}
use Rattle.sf_features.specs.Features.{FeatureContent}
use Rattle.sf_near.proofs.Passed.{value-found}
use Rattle.sf_valid_rules.specs.Validity.{IsValid}
use Rattle.sf_joins.specs.Joins.{are_distinct, found_beside}
use Rattle.sf_joins.proofs.LoopLaws.{beside-found, is-beside}
use Rattle.sf_joins.proofs.joining.join_one.Goals as goal

pub ids_asked-requires : goal.ids_asked-requires
ids_asked-requires c = layer-fits c.args.store.now c.args.first.now c.in-Some.own.now c.in-Some.ensures.well_formed (sym c.in-Some.ensures.found)

pub returns : goal.returns
returns c =
    let own = layer-fits c.args.store.now c.args.first.now c.in-Some.own.now c.in-Some.ensures.well_formed (sym c.in-Some.ensures.found) in
    let fits = layer-fits c.args.store.now c.args.second.now c.in-Some-layer.other.now c.in-Some-layer.ensures.well_formed (sym c.in-Some-layer.ensures.found) in
    let valid : IsValid c.in-Some-feature.feature.now.geometry =
    value-found (λ (f : FeatureContent). IsValid f.geometry) (nat_eq c.args.id) c.in-Some-feature.feature.now c.in-Some-layer.other.now.features
    (geometries-valid c.in-Some-layer.other.now fits) (sym c.in-Some-feature.ensures) in
    is-beside (bytes_eq c.args.first.now c.args.second.now) (layer_of c.args.store.now c.args.first.now) (layer_of c.args.store.now c.args.second.now) c.in-Some.own.now c.in-Some-layer.other.now
    c.args.ask.now c.args.id c.in-Some-feature.feature.now _ (sym c.in-Some.ensures.found) (sym c.in-Some-layer.ensures.found) (sym c.in-Some-feature.ensures)
    own.rising (geometries-valid c.in-Some.own.now own) valid
    (c.in_ok-ids.ensures
    ∙ ap (filter (λ other. are_distinct c.eq-one.result other c.args.id)) (c.as_slice.ensures.value ∙ c.in_ok-found.ensures)
    ∙ beside-found c.eq-one.result c.in-Some.own.now c.args.ask.now c.args.id c.in-Some-feature.feature.now c.valid.result.now c.valid.ensures.same
    ∙ ap (λ one. found_beside one c.in-Some.own.now c.args.ask.now (c.args.id, c.in-Some-feature.feature.now)) c.eq-one.ensures)
