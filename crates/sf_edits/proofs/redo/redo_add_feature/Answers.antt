use Rattle.std.proofs.Common.{refl, ap, sym, subst, ◌∙◌}
use Rattle.sf_features.specs.Features.{plain_feature}
use Rattle.sf_layers.specs.Content.{change_at, with_next_feature}
use Rattle.sf_layers.specs.WellFormed.{IsWellFormed}
use Rattle.sf_steps.specs.declared.edit.Edit.TheVariants as edits
use Rattle.sf_steps.specs.declared.inverse.Inverse.TheVariants as inverses
use Rattle.sf_edits.proofs.FeatureLaws.{place-unwrapped}
use Rattle.sf_edits.proofs.RedoLaws.{CarriesOrKeeps-done, done-again, fits-again, place-again, taking, taking-next, taking-room}
use Rattle.sf_edits.proofs.redo.redo_add_feature.Goals as goal

pub unwrap-place-requires : goal.unwrap-place-requires
unwrap-place-requires c = place-again c.args.store.now (edits.AddFeature c.args.layer c.args.geometry) c.args.layer c.as_str.result.now _ _ refl c.requires c.as_str.ensures c.place.ensures.found

pub push_feature-requires-clause-room : goal.push_feature-requires-clause-room
push_feature-requires-clause-room c =
    taking-room c.args.store.now c.args.layer c.unwrap-place.result (taking c.args.store.now c.args.layer c.args.geometry c.requires)
    (place-unwrapped c.args.store.now c.args.layer c.as_str.result.now c.place.result c.unwrap-place.result c.as_str.ensures c.unwrap-place.ensures c.place.ensures.there)

pub push_feature-requires-clause-fits : goal.push_feature-requires-clause-fits
push_feature-requires-clause-fits c =
    subst (λ feature. IsWellFormed (change_at c.unwrap-place.result (with_next_feature feature) c.args.store.now)) (sym c.new.ensures)
    (fits-again c.args.store.now (edits.AddFeature c.args.layer c.args.geometry) c.args.layer c.unwrap-place.result (with_next_feature (plain_feature c.args.geometry)) refl c.geometry.ensures.valid.on_grid c.place.ensures.well_formed c.requires
    (place-unwrapped c.args.store.now c.args.layer c.as_str.result.now c.place.result c.unwrap-place.result c.as_str.ensures c.unwrap-place.ensures c.place.ensures.there))

pub returns-in-Ok : goal.returns-in-Ok
returns-in-Ok c =
    CarriesOrKeeps-done c.args.store.now c.push_feature.new.self (edits.AddFeature c.args.layer c.args.geometry) (inverses.TakeFeature c.args.layer c.in-Ok.id)
    (done-again c.args.store.now c.push_feature.new.self (edits.AddFeature c.args.layer c.args.geometry) (inverses.TakeFeature c.args.layer c.in-Ok.id) c.args.layer c.unwrap-place.result
    (with_next_feature (plain_feature c.args.geometry)) refl c.place.ensures.well_formed c.requires
    (place-unwrapped c.args.store.now c.args.layer c.as_str.result.now c.place.result c.unwrap-place.result c.as_str.ensures c.unwrap-place.ensures c.place.ensures.there)
    (c.in-Ok.ensures.pushed ∙ ap (λ feature. change_at c.unwrap-place.result (with_next_feature feature) c.args.store.now) c.new.ensures)
    (taking-next c.args.store.now c.args.layer c.args.geometry c.unwrap-place.result c.in-Ok.id (taking c.args.store.now c.args.layer c.args.geometry c.requires)
    (place-unwrapped c.args.store.now c.args.layer c.as_str.result.now c.place.result c.unwrap-place.result c.as_str.ensures c.unwrap-place.ensures c.place.ensures.there)
    c.in-Ok.ensures.id))
