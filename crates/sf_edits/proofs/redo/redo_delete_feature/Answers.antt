use Rattle.std.proofs.Common.{refl}
use Rattle.sf_steps.specs.declared.edit.Edit.TheVariants as edits
use Rattle.sf_edits.proofs.FeatureLaws.{deleted, place-unwrapped}
use Rattle.sf_edits.proofs.RedoLaws.{deleting, deleting-there, place-again}
use Rattle.sf_edits.proofs.redo.redo_delete_feature.Goals as goal

pub unwrap-place-requires : goal.unwrap-place-requires
unwrap-place-requires c = place-again c.args.store.now (edits.DeleteFeature c.args.layer c.args.id) c.args.layer c.as_str.result.now _ _ refl c.requires c.as_str.ensures c.place.ensures.found

pub take_feature-feature-requires : goal.take_feature-feature-requires
take_feature-feature-requires c =
    deleting-there c.args.store.now c.args.layer c.args.id c.unwrap-place.result
    (deleting c.args.store.now c.args.layer c.args.id c.unwrap-place.result c.requires c.place.ensures.well_formed
    (place-unwrapped c.args.store.now c.args.layer c.as_str.result.now c.place.result c.unwrap-place.result c.as_str.ensures c.unwrap-place.ensures c.place.ensures.there))

pub returns : goal.returns
returns c =
    deleted c.args.store.now c.take_feature-feature.new.self c.args.layer c.args.id c.unwrap-place.result c.take_feature-feature.result
    (deleting c.args.store.now c.args.layer c.args.id c.unwrap-place.result c.requires c.place.ensures.well_formed
    (place-unwrapped c.args.store.now c.args.layer c.as_str.result.now c.place.result c.unwrap-place.result c.as_str.ensures c.unwrap-place.ensures c.place.ensures.there))
    c.take_feature-feature.ensures.taken c.take_feature-feature.ensures.rest
