use Rattle.std.proofs.Common.{sym, subst, Err}
use Rattle.sf_steps.specs.declared.edit.Edit.TheVariants.{ReplaceGeometry}
use Rattle.sf_steps.specs.Inverses.{Carries}
use Rattle.sf_edits.proofs.EntryLaws.{is-replaced, replaced-done, replaced-fits, replacing-invalid, replacing-refused}
use Rattle.sf_edits.proofs.feature_edits.replace_geometry.Goals as goal

pub returns-in-Err : goal.returns-in-Err
returns-in-Err c = replacing-refused c.args.store.now c.args.layer c.as_str.result.now c.args.id c.args.geometry c.in-Err.refusal c.as_str.ensures c.in-Err.ensures.refused

pub exchange_geometry-old-requires-clause-fits : goal.exchange_geometry-old-requires-clause-fits
exchange_geometry-old-requires-clause-fits c =
    replaced-fits c.args.store.now c.args.layer c.args.id c.args.geometry c.in-Ok-validate.valid c.in-Ok.place
    (is-replaced c.args.store.now c.args.layer c.as_str.result.now c.args.id c.args.geometry c.in-Ok.place c.as_str.ensures c.in-Ok.ensures.place c.in-Ok.ensures.passed c.in-Ok.ensures.well_formed)
    c.in-Ok-validate.ensures.valid c.in-Ok-validate.ensures.kept

pub returns-in-Ok-validate : goal.returns-in-Ok-validate
returns-in-Ok-validate c =
    replaced-done c.args.store.now c.exchange_geometry-old.new.self c.args.layer c.args.id c.args.geometry c.in-Ok-validate.valid c.exchange_geometry-old.result c.in-Ok.place
    (is-replaced c.args.store.now c.args.layer c.as_str.result.now c.args.id c.args.geometry c.in-Ok.place c.as_str.ensures c.in-Ok.ensures.place c.in-Ok.ensures.passed c.in-Ok.ensures.well_formed)
    c.in-Ok-validate.ensures.valid.valid c.in-Ok-validate.ensures.kept c.exchange_geometry-old.ensures.given c.exchange_geometry-old.ensures.put

pub returns-in-Err-validate : goal.returns-in-Err-validate
returns-in-Err-validate c =
    subst (λ refusal. Carries c.args.store.now (ReplaceGeometry c.args.layer c.args.id c.args.geometry) (Err (ReplaceGeometry c.args.layer c.args.id c.in-Err-validate.field-0.geometry, refusal)) c.args.store.now)
    (sym c.into.ensures)
    (replacing-invalid c.args.store.now c.args.layer c.args.id c.args.geometry c.in-Err-validate.field-0.geometry c.in-Ok.place c.in-Err-validate.field-0.refusal
    (is-replaced c.args.store.now c.args.layer c.as_str.result.now c.args.id c.args.geometry c.in-Ok.place c.as_str.ensures c.in-Ok.ensures.place c.in-Ok.ensures.passed c.in-Ok.ensures.well_formed)
    c.in-Err-validate.ensures.refused c.in-Err-validate.ensures.given_back)
