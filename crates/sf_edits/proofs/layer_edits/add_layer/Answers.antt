use Rattle.std.proofs.Common.{◌≡◌, ◌∙◌, sym, ap, subst, None, Some, refl}
use Rattle.sf_layers.specs.WellFormed.{IsWellFormed}
use Rattle.sf_steps.specs.declared.edit.Edit.TheVariants.{AddLayer}
use Rattle.sf_steps.specs.declared.inverse.Inverse.TheVariants.{TakeLayer}
use Rattle.sf_steps.specs.Steps.{checks, first_refusal}
use Rattle.sf_steps.proofs.StepsFine.{effect_fine}
use Rattle.sf_edits.proofs.Carrying.{Carries-done, Carries-refused, Carries-memory}
use Rattle.sf_edits.proofs.LayerLaws.{added-last, adding-free}
use Rattle.sf_edits.proofs.layer_edits.add_layer.Goals as goal

passed : (c : goal.After-new) → first_refusal (checks c.args.store.now (AddLayer c.args.name c.args.kind)) ≡ None
passed c = subst (λ name. first_refusal (checks c.args.store.now (AddLayer name c.args.kind)) ≡ None) c.as_str.ensures (c.in-Ok.ensures.passed c.args.kind)

pub put_layer-requires-clause-free : goal.put_layer-requires-clause-free
put_layer-requires-clause-free c = adding-free c.args.store.now c.args.name c.args.kind (passed c)

pub put_layer-requires-clause-fits : goal.put_layer-requires-clause-fits
put_layer-requires-clause-fits c =
    subst IsWellFormed (sym (added-last c.args.store.now c.args.name c.args.kind c.in-Ok.place c.new.result c.in-Ok.ensures.place c.new.ensures))
    (effect_fine c.args.store.now (AddLayer c.args.name c.args.kind) tt c.in-Ok.ensures.well_formed (passed c))

pub returns-in-Ok-put_layer : goal.returns-in-Ok-put_layer
returns-in-Ok-put_layer c =
    let passed : first_refusal (checks c.args.store.now (AddLayer c.args.name c.args.kind)) ≡ None =
    subst (λ name. first_refusal (checks c.args.store.now (AddLayer name c.args.kind)) ≡ None) c.as_str.ensures (c.in-Ok.ensures.passed c.args.kind) in
    Carries-done c.args.store.now c.put_layer.new.self (AddLayer c.args.name c.args.kind) TakeLayer c.in-Ok.ensures.well_formed passed
    (sym (c.in-Ok-put_layer.ensures.put ∙ added-last c.args.store.now c.args.name c.args.kind c.in-Ok.place c.new.result c.in-Ok.ensures.place c.new.ensures)) refl

pub returns-in-Err : goal.returns-in-Err
returns-in-Err c =
    let edit = AddLayer c.args.name c.args.kind in
    let failed : first_refusal (checks c.args.store.now edit) ≡ Some c.in-Err.refusal =
    subst (λ name. first_refusal (checks c.args.store.now (AddLayer name c.args.kind)) ≡ Some c.in-Err.refusal) c.as_str.ensures (c.in-Err.ensures.refused c.args.kind) in
    Carries-refused c.args.store.now c.args.store.now edit edit c.in-Err.refusal failed refl refl

pub returns : goal.returns
returns c =
    let passed : first_refusal (checks c.args.store.now (AddLayer c.args.name c.args.kind)) ≡ None =
    subst (λ name. first_refusal (checks c.args.store.now (AddLayer name c.args.kind)) ≡ None) c.as_str.ensures (c.in-Ok.ensures.passed c.args.kind) in
    let back : AddLayer c.in-Err-put_layer.name c.args.kind ≡ AddLayer c.args.name c.args.kind = ap (λ p. AddLayer p.0 c.args.kind) c.in-Err-put_layer.ensures.given_back in
    Carries-memory c.args.store.now c.put_layer.new.self (AddLayer c.args.name c.args.kind) (AddLayer c.in-Err-put_layer.name c.args.kind) passed back c.in-Err-put_layer.ensures.unchanged
