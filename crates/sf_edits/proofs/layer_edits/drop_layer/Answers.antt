use Rattle.std.proofs.Common.{◌∙◌, sym, ap, Some, is_some}
use Rattle.sf_layers.specs.Content.{has_layer, place_of}
use Rattle.sf_edits.proofs.LayerLaws.{dropped, place-within}
use Rattle.sf_edits.proofs.layer_edits.drop_layer.Goals as goal

pub take_layer-stored-requires : goal.take_layer-stored-requires
take_layer-stored-requires c =
    place-within c.args.store.now c.args.name c.in-Some.place (ap (has_layer c.args.store.now) (sym c.as_str.ensures) ∙ sym c.place.ensures.found ∙ ap is_some c.in-Some.is)
    (c.in-Some.ensures.there ∙ ap (place_of c.args.store.now) c.as_str.ensures)

pub returns : goal.returns
returns c =
    dropped c.args.store.now c.take_layer-stored.new.self c.args.name c.in-Some.place c.take_layer-stored.result.0 c.replace.new.self c.place.ensures.well_formed
    (ap (has_layer c.args.store.now) (sym c.as_str.ensures) ∙ sym c.place.ensures.found ∙ ap is_some c.in-Some.is)
    (c.in-Some.ensures.there ∙ ap (place_of c.args.store.now) c.as_str.ensures)
    (c.take_layer-stored.ensures.taken ∙ ap (λ l. Some (c.take_layer-stored.result.0, l)) (sym c.replace.ensures.put))
    c.take_layer-stored.ensures.rest
