use Rattle.std.proofs.Common.{◌∙◌, sym, ap, subst, Err}
use Rattle.sf_features.specs.Features.{plain_feature}
use Rattle.sf_steps.specs.declared.edit.Edit.TheVariants.{AddFeature}
use Rattle.sf_steps.specs.Inverses.{Carries}
use Rattle.sf_edits.proofs.EntryLaws.{adding-invalid, adding-refused, entered-done, entered-exhausted, entered-fits, is-entered}
use Rattle.sf_edits.proofs.FeatureLaws.{entry-there}
use Rattle.sf_edits.proofs.feature_edits.add_feature.Goals as goal

pub returns-in-Err : goal.returns-in-Err
returns-in-Err c = adding-refused c.args.store.now c.args.layer c.as_str.result.now c.args.geometry c.in-Err.refusal c.as_str.ensures c.in-Err.ensures.refused

pub returns-in-Err-validate : goal.returns-in-Err-validate
returns-in-Err-validate c =
    subst (λ refusal. Carries c.args.store.now (AddFeature c.args.layer c.args.geometry) (Err (AddFeature c.args.layer c.in-Err-validate.field-0.geometry, refusal)) c.args.store.now) (sym c.into.ensures)
    (adding-invalid c.args.store.now c.args.layer c.as_str.result.now c.args.geometry c.in-Err-validate.field-0.geometry c.in-Err-validate.field-0.refusal c.as_str.ensures c.in-Ok.ensures.passed
    c.in-Err-validate.ensures.refused c.in-Err-validate.ensures.given_back)

pub has_free_id-requires : goal.has_free_id-requires
has_free_id-requires c = entry-there c.args.store.now c.as_str.result.now c.in-Ok.place c.in-Ok.ensures.place c.in-Ok.ensures.there

pub returns-then-not-has_free_id : goal.returns-then-not-has_free_id
returns-then-not-has_free_id c =
    entered-exhausted c.args.store.now c.args.layer c.args.geometry c.into_geometry-geometry.result c.in-Ok.place c.has_free_id.result
    (is-entered c.args.store.now c.args.layer c.as_str.result.now c.args.geometry c.in-Ok.place c.has_free_id.result c.as_str.ensures c.in-Ok.ensures.place c.in-Ok.ensures.there c.in-Ok.ensures.passed
    c.has_free_id.ensures c.in-Ok.ensures.well_formed)
    c.in-Ok-validate.ensures.valid.valid c.if-not-has_free_id.true (c.into_geometry-geometry.ensures.same ∙ c.in-Ok-validate.ensures.kept)

pub push_feature-requires-clause-fits : goal.push_feature-requires-clause-fits
push_feature-requires-clause-fits c =
    entered-fits c.args.store.now c.args.layer c.args.geometry c.in-Ok.place c.has_free_id.result c.new.result
    (is-entered c.args.store.now c.args.layer c.as_str.result.now c.args.geometry c.in-Ok.place c.has_free_id.result c.as_str.ensures c.in-Ok.ensures.place c.in-Ok.ensures.there c.in-Ok.ensures.passed
    c.has_free_id.ensures c.in-Ok.ensures.well_formed)
    c.in-Ok-validate.ensures.valid c.if-not-has_free_id.false (c.new.ensures ∙ ap plain_feature c.in-Ok-validate.ensures.kept)

pub returns-in-Ok-push_feature : goal.returns-in-Ok-push_feature
returns-in-Ok-push_feature c =
    entered-done c.args.store.now c.push_feature.new.self c.args.layer c.args.geometry c.in-Ok.place c.in-Ok-push_feature.id c.has_free_id.result c.new.result
    (is-entered c.args.store.now c.args.layer c.as_str.result.now c.args.geometry c.in-Ok.place c.has_free_id.result c.as_str.ensures c.in-Ok.ensures.place c.in-Ok.ensures.there c.in-Ok.ensures.passed
    c.has_free_id.ensures c.in-Ok.ensures.well_formed)
    c.in-Ok-validate.ensures.valid.valid c.if-not-has_free_id.false (c.new.ensures ∙ ap plain_feature c.in-Ok-validate.ensures.kept) c.in-Ok-push_feature.ensures.pushed c.in-Ok-push_feature.ensures.id
