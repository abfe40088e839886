use Rattle.sf_edits.proofs.LayerLaws.{old_name-free}
use Rattle.sf_edits.proofs.layer_edits.undo_rename_layer.Goals as goal

pub rename_layer-requires-clause-free : goal.rename_layer-requires-clause-free
rename_layer-requires-clause-free c = old_name-free c.args.store.now c.args.name c.args.place c.args.stored c.requires
