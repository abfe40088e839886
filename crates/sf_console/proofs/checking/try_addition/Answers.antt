use Rattle.std.proofs.Common.{◌≡◌, ◌∙◌, inr, sym, ap, subst, ◌⊎◌, Some}
use Rattle.sf_geometry.specs.Kinds.{kind_of}
use Rattle.sf_layers.specs.Content.{admits}
use Rattle.sf_steps.specs.declared.edit.Edit.TheVariants as edits
use Rattle.sf_steps.specs.declared.refusal.Refusal.TheVariants.{IdsExhausted, Memory}
use Rattle.sf_steps.specs.Steps.{checks, first_refusal, unless}
use Rattle.sf_console.proofs.CheckLaws.{IsTried, tried-refused, tried-valid}
use Rattle.sf_console.proofs.checking.try_addition.Goals as goal

pub returns-in-Err-check-clause-refused : goal.returns-in-Err-check-clause-refused
returns-in-Err-check-clause-refused c =
    let g = c.args.geometry.now in
    let layer = c.in-Some.layer.now in
    let tried : IsTried c.args.store.now c.args.layer.now g layer = record {
      found = sym c.in-Some.ensures.found;
      admitted = ap (λ k. admits k (kind_of g)) (sym c.kind.ensures) ∙ ap (λ k. admits c.kind.result k) (sym c.kind-2.ensures) ∙ sym c.admits.ensures ∙ c.if-not-admits.false;
      size = c.in_default-check_size.ensures.ok;
    } in
    subst (λ refusal. (refusal ≡ Memory) ⊎ (first_refusal (checks c.args.store.now (edits.AddFeature c.args.layer.now g)) ≡ Some refusal)) (sym c.into-in-Err-check.ensures)
    (tried-refused c.args.store.now c.args.layer.now g layer c.in-Err-check.refusal tried c.in-Err-check.ensures.refused)

pub returns-then-not-has_free_id-clause-refused : goal.returns-then-not-has_free_id-clause-refused
returns-then-not-has_free_id-clause-refused c =
    let g = c.args.geometry.now in
    let layer = c.in-Some.layer.now in
    let tried : IsTried c.args.store.now c.args.layer.now g layer = record {
      found = sym c.in-Some.ensures.found;
      admitted = ap (λ k. admits k (kind_of g)) (sym c.kind.ensures) ∙ ap (λ k. admits c.kind.result k) (sym c.kind-2.ensures) ∙ sym c.admits.ensures ∙ c.if-not-admits.false;
      size = c.in_default-check_size.ensures.ok;
    } in
    inr (tried-valid c.args.store.now c.args.layer.now g layer c.has_free_id.result tried c.in_default-check.ensures.valid c.has_free_id.ensures ∙ ap (λ free. unless free IdsExhausted) c.if-not-has_free_id.true)

pub returns-clause-passed : goal.returns-clause-passed
returns-clause-passed c =
    let g = c.args.geometry.now in
    let layer = c.in-Some.layer.now in
    let tried : IsTried c.args.store.now c.args.layer.now g layer = record {
      found = sym c.in-Some.ensures.found;
      admitted = ap (λ k. admits k (kind_of g)) (sym c.kind.ensures) ∙ ap (λ k. admits c.kind.result k) (sym c.kind-2.ensures) ∙ sym c.admits.ensures ∙ c.if-not-admits.false;
      size = c.in_default-check_size.ensures.ok;
    } in
    tried-valid c.args.store.now c.args.layer.now g layer c.has_free_id.result tried c.in_default-check.ensures.valid c.has_free_id.ensures ∙ ap (λ free. unless free IdsExhausted) c.if-not-has_free_id.false
