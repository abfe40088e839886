use Rattle.std.proofs.Common.{refl}
use Rattle.sf_features.specs.Features.{with_geometry}
use Rattle.sf_layers.specs.Content.{change_feature}
use Rattle.sf_steps.specs.declared.edit.Edit.TheVariants as edits
use Rattle.sf_steps.specs.declared.inverse.Inverse.TheVariants as inverses
use Rattle.sf_edits.proofs.FeatureLaws.{place-unwrapped}
use Rattle.sf_edits.proofs.RedoLaws.{done-again, fits-again, place-again, replacing-at, replacing-old, replacing-there}
use Rattle.sf_edits.proofs.redo.redo_replace_geometry.Goals as goal

pub unwrap-place-requires : goal.unwrap-place-requires
unwrap-place-requires c = place-again c.args.store.now (edits.ReplaceGeometry c.args.layer c.args.id c.args.geometry) c.args.layer c.as_str.result.now _ _ refl c.requires c.as_str.ensures c.place.ensures.found

pub exchange_geometry-old-requires-clause-there : goal.exchange_geometry-old-requires-clause-there
exchange_geometry-old-requires-clause-there c =
    replacing-at c.args.store.now c.args.layer c.args.id c.unwrap-place.result (replacing-there c.args.store.now c.args.layer c.args.id c.args.geometry c.requires)
    (place-unwrapped c.args.store.now c.args.layer c.as_str.result.now c.place.result c.unwrap-place.result c.as_str.ensures c.unwrap-place.ensures c.place.ensures.there)

pub exchange_geometry-old-requires-clause-fits : goal.exchange_geometry-old-requires-clause-fits
exchange_geometry-old-requires-clause-fits c =
    fits-again c.args.store.now (edits.ReplaceGeometry c.args.layer c.args.id c.args.geometry) c.args.layer c.unwrap-place.result (change_feature c.args.id (with_geometry c.args.geometry)) refl c.geometry.ensures.valid.on_grid c.place.ensures.well_formed c.requires
    (place-unwrapped c.args.store.now c.args.layer c.as_str.result.now c.place.result c.unwrap-place.result c.as_str.ensures c.unwrap-place.ensures c.place.ensures.there)

pub returns : goal.returns
returns c =
    done-again c.args.store.now c.exchange_geometry-old.new.self (edits.ReplaceGeometry c.args.layer c.args.id c.args.geometry) (inverses.PutGeometry c.args.layer c.args.id c.exchange_geometry-old.result) c.args.layer c.unwrap-place.result
    (change_feature c.args.id (with_geometry c.args.geometry)) refl c.place.ensures.well_formed c.requires
    (place-unwrapped c.args.store.now c.args.layer c.as_str.result.now c.place.result c.unwrap-place.result c.as_str.ensures c.unwrap-place.ensures c.place.ensures.there)
    c.exchange_geometry-old.ensures.put
    (replacing-old c.args.store.now c.args.layer c.args.id c.unwrap-place.result c.args.geometry c.exchange_geometry-old.result (replacing-there c.args.store.now c.args.layer c.args.id c.args.geometry c.requires)
    (place-unwrapped c.args.store.now c.args.layer c.as_str.result.now c.place.result c.unwrap-place.result c.as_str.ensures c.unwrap-place.ensures c.place.ensures.there)
    c.exchange_geometry-old.ensures.given)
