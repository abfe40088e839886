use Rattle.std.proofs.Common.{◌∙◌, ap}
use Rattle.sf_layers.specs.Content.{has_layer}
use Rattle.sf_edits.proofs.LayerLaws.{LayerMoved-Fits, found-place, place-within}
use Rattle.sf_edits.proofs.layer_edits.undo_move_layer.Goals as goal

pub unwrap-from-requires : goal.unwrap-from-requires
unwrap-from-requires c = c.place.ensures.found ∙ ap (has_layer c.args.store.now) c.as_str.ensures ∙ (LayerMoved-Fits c.args.store.now c.args.name c.args.place c.requires).found

pub move_layer-requires-clause-from : goal.move_layer-requires-clause-from
move_layer-requires-clause-from c =
    place-within c.args.store.now c.args.name c.unwrap-from.result (LayerMoved-Fits c.args.store.now c.args.name c.args.place c.requires).found
    (found-place c.args.store.now c.args.name c.as_str.result.now c.unwrap-from.result c.place.result c.as_str.ensures c.unwrap-from.ensures c.place.ensures.there)

pub move_layer-requires-clause-to : goal.move_layer-requires-clause-to
move_layer-requires-clause-to c = (LayerMoved-Fits c.args.store.now c.args.name c.args.place c.requires).to
