use Rattle.std.proofs.Common.{refl, subst, sym}
use Rattle.sf_features.specs.Features.{with_geometry}
use Rattle.sf_layers.specs.Content.{change_feature}
use Rattle.sf_steps.specs.declared.inverse.Inverse.TheVariants.{PutGeometry}
use Rattle.sf_steps.specs.Inverses.{Reverts}
use Rattle.sf_edits.proofs.Carrying.{fits-at}
use Rattle.sf_edits.proofs.EntryLaws.{replaced-there, replaced-undone}
use Rattle.sf_edits.proofs.FeatureLaws.{place-unwrapped}
use Rattle.sf_edits.proofs.feature_edits.undo_replace_geometry.Goals as goal

pub exchange_geometry-valid-requires-clause-there : goal.exchange_geometry-valid-requires-clause-there
exchange_geometry-valid-requires-clause-there c =
    replaced-there c.args.store.now c.args.layer c.args.id c.unwrap-place.result c.args.old c.requires
    (place-unwrapped c.args.store.now c.args.layer c.as_str.result.now c.place.result c.unwrap-place.result c.as_str.ensures c.unwrap-place.ensures c.place.ensures.there)

pub exchange_geometry-valid-requires-clause-fits : goal.exchange_geometry-valid-requires-clause-fits
exchange_geometry-valid-requires-clause-fits c =
    fits-at c.args.store.now c.args.layer c.unwrap-place.result (change_feature c.args.id (with_geometry c.args.old))
    (place-unwrapped c.args.store.now c.args.layer c.as_str.result.now c.place.result c.unwrap-place.result c.as_str.ensures c.unwrap-place.ensures c.place.ensures.there)
    c.requires.well_formed

pub returns : goal.returns
returns c =
    subst (λ edit. Reverts c.args.store.now (PutGeometry c.args.layer c.args.id c.args.old) edit c.exchange_geometry-valid.new.self) (sym c.replace_geometry.ensures)
    (replaced-undone c.args.store.now c.exchange_geometry-valid.new.self c.args.layer c.args.id c.unwrap-place.result c.args.old c.exchange_geometry-valid.result c.exchange_geometry-valid.result c.requires
    (place-unwrapped c.args.store.now c.args.layer c.as_str.result.now c.place.result c.unwrap-place.result c.as_str.ensures c.unwrap-place.ensures c.place.ensures.there)
    c.exchange_geometry-valid.ensures.given c.exchange_geometry-valid.ensures.put refl)
