use Rattle.sf_edits.proofs.LayerLaws.{is-renaming, renamed, renaming-fits}
use Rattle.sf_edits.proofs.layer_edits.rename_layer.Goals as goal

pub rename_layer-requires-clause-within : goal.rename_layer-requires-clause-within
rename_layer-requires-clause-within c = (is-renaming c.args.store.now c.args.name c.args.new_name c.as_str.result.now c.as_str-2.result.now c.in-Ok.place c.as_str.ensures c.as_str-2.ensures c.in-Ok.ensures.place c.in-Ok.ensures.passed).within

pub rename_layer-requires-clause-fits : goal.rename_layer-requires-clause-fits
rename_layer-requires-clause-fits c =
    renaming-fits c.args.store.now c.args.name c.args.new_name c.in-Ok.place c.in-Ok.ensures.well_formed
    (is-renaming c.args.store.now c.args.name c.args.new_name c.as_str.result.now c.as_str-2.result.now c.in-Ok.place c.as_str.ensures c.as_str-2.ensures c.in-Ok.ensures.place c.in-Ok.ensures.passed)

pub returns-in-Ok-rename_layer : goal.returns-in-Ok-rename_layer
returns-in-Ok-rename_layer c =
    renamed c.args.store.now c.rename_layer.new.self c.args.name c.args.new_name c.in-Ok.place c.in-Ok-rename_layer.stored c.in-Ok.ensures.well_formed
    (is-renaming c.args.store.now c.args.name c.args.new_name c.as_str.result.now c.as_str-2.result.now c.in-Ok.place c.as_str.ensures c.as_str-2.ensures c.in-Ok.ensures.place c.in-Ok.ensures.passed)
    c.in-Ok-rename_layer.ensures.given c.in-Ok-rename_layer.ensures.renamed
