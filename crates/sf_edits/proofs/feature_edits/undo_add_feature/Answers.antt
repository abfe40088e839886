use Rattle.std.proofs.Common.{subst, sym}
use Rattle.sf_layers.specs.Content.{without_last_feature}
use Rattle.sf_steps.specs.declared.inverse.Inverse.TheVariants.{TakeFeature}
use Rattle.sf_steps.specs.Inverses.{Reverts}
use Rattle.sf_edits.proofs.Carrying.{fits-at}
use Rattle.sf_edits.proofs.EntryLaws.{added-there, added-undone}
use Rattle.sf_edits.proofs.FeatureLaws.{place-unwrapped}
use Rattle.sf_edits.proofs.feature_edits.undo_add_feature.Goals as goal

pub pop_feature-feature-requires-clause-there : goal.pop_feature-feature-requires-clause-there
pop_feature-feature-requires-clause-there c =
    added-there c.args.store.now c.args.layer c.args.id c.unwrap-place.result c.requires
    (place-unwrapped c.args.store.now c.args.layer c.as_str.result.now c.place.result c.unwrap-place.result c.as_str.ensures c.unwrap-place.ensures c.place.ensures.there)

pub pop_feature-feature-requires-clause-fits : goal.pop_feature-feature-requires-clause-fits
pop_feature-feature-requires-clause-fits c =
    fits-at c.args.store.now c.args.layer c.unwrap-place.result (without_last_feature c.args.id)
    (place-unwrapped c.args.store.now c.args.layer c.as_str.result.now c.place.result c.unwrap-place.result c.as_str.ensures c.unwrap-place.ensures c.place.ensures.there)
    c.requires.well_formed

pub returns : goal.returns
returns c =
    subst (λ edit. Reverts c.args.store.now (TakeFeature c.args.layer c.args.id) edit c.pop_feature-feature.new.self) (sym c.add_feature.ensures)
    (added-undone c.args.store.now c.pop_feature-feature.new.self c.args.layer c.args.id c.unwrap-place.result c.pop_feature-feature.result c.into_valid.result c.requires
    (place-unwrapped c.args.store.now c.args.layer c.as_str.result.now c.place.result c.unwrap-place.result c.as_str.ensures c.unwrap-place.ensures c.place.ensures.there)
    c.pop_feature-feature.ensures.taken c.pop_feature-feature.ensures.rest c.into_valid.ensures)
