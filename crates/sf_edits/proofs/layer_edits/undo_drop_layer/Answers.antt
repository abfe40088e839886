use Rattle.sf_edits.proofs.LayerLaws.{LayerOut-Fits}
use Rattle.sf_edits.proofs.layer_edits.undo_drop_layer.Goals as goal

pub put_layer-requires-clause-free : goal.put_layer-requires-clause-free
put_layer-requires-clause-free c = (LayerOut-Fits c.args.store.now c.args.name c.args.place c.args.stored c.args.layer c.requires).free

pub put_layer-requires-clause-within : goal.put_layer-requires-clause-within
put_layer-requires-clause-within c = (LayerOut-Fits c.args.store.now c.args.name c.args.place c.args.stored c.args.layer c.requires).within
