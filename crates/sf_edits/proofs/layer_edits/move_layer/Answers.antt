use Rattle.std.proofs.Common.{◌∙◌, sym, ap, is_some}
use Rattle.sf_layers.specs.Content.{has_layer, place_of}
use Rattle.sf_edits.proofs.LayerLaws.{layer_moved, place-within}
use Rattle.sf_edits.proofs.layer_edits.move_layer.Goals as goal

pub move_layer-requires-clause-from : goal.move_layer-requires-clause-from
move_layer-requires-clause-from c =
    place-within c.args.store.now c.args.name c.in-Some.from (ap (has_layer c.args.store.now) (sym c.as_str.ensures) ∙ sym c.place.ensures.found ∙ ap is_some c.in-Some.is)
    (c.in-Some.ensures.there ∙ ap (place_of c.args.store.now) c.as_str.ensures)

pub returns : goal.returns
returns c =
    layer_moved c.args.store.now c.move_layer.new.self c.args.name c.in-Some.from c.args.place c.layer_count.result c.place.ensures.well_formed
    (ap (has_layer c.args.store.now) (sym c.as_str.ensures) ∙ sym c.place.ensures.found ∙ ap is_some c.in-Some.is)
    (c.in-Some.ensures.there ∙ ap (place_of c.args.store.now) c.as_str.ensures)
    c.layer_count.ensures.count c.if-to-layer_count.false c.move_layer.ensures
