use Rattle.std.proofs.Common.{◌∙◌, ap}
use Rattle.sf_layers.specs.Content.{has_layer, without_last_column}
use Rattle.sf_edits.proofs.Carrying.{fits-at}
use Rattle.sf_edits.proofs.ColumnLaws.{column-taken, last-some, last-there}
use Rattle.sf_edits.proofs.LayerLaws.{found-place}
use Rattle.sf_edits.proofs.column_edits.undo_add_column.Goals as goal

pub unwrap-place-requires : goal.unwrap-place-requires
unwrap-place-requires c = c.place.ensures.found ∙ ap (has_layer c.args.store.now) c.as_str.ensures ∙ last-there c.args.store.now c.args.layer c.requires

pub pop_column-name-requires-clause-some : goal.pop_column-name-requires-clause-some
pop_column-name-requires-clause-some c =
    last-some c.args.store.now c.args.layer c.unwrap-place.result c.requires
    (found-place c.args.store.now c.args.layer c.as_str.result.now c.unwrap-place.result c.place.result c.as_str.ensures c.unwrap-place.ensures c.place.ensures.there)

pub pop_column-name-requires-clause-fits : goal.pop_column-name-requires-clause-fits
pop_column-name-requires-clause-fits c =
    fits-at c.args.store.now c.args.layer c.unwrap-place.result without_last_column
    (found-place c.args.store.now c.args.layer c.as_str.result.now c.unwrap-place.result c.place.result c.as_str.ensures c.unwrap-place.ensures c.place.ensures.there) c.requires.well_formed

pub returns : goal.returns
returns c =
    column-taken c.args.store.now c.pop_column-name.new.self c.args.layer c.unwrap-place.result c.pop_column-name.result c.requires
    (found-place c.args.store.now c.args.layer c.as_str.result.now c.unwrap-place.result c.place.result c.as_str.ensures c.unwrap-place.ensures c.place.ensures.there)
    c.pop_column-name.ensures.taken c.pop_column-name.ensures.rest
