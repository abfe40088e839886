use Rattle.std.proofs.lemmas.Result.{err_from_is_err_and}
use Rattle.sf_layers.specs.Content.{has_layer}
use Rattle.sf_format.specs.Stored.{Ask, Matrix, OfLayers}
use Rattle.sf_format.specs.declared.rule_form.RuleForm.TheVariants.{Between}
use Rattle.sf_format.specs.Readings.{done, field}
use Rattle.sf_format.specs.Format.{ask, known_layer_name, name, said}
use Rattle.sf_format.proofs.Continuations.{said_after_ask, said_after_first}
use Rattle.sf_format.proofs.Rules.{both}
use Rattle.sf_loading.proofs.StreamLaws.{Ends-first, Ends-step, Goes-step, Goes-then}
use Rattle.sf_loading.proofs.FieldLaws.{Takes-known_layer}
use Rattle.sf_loading.proofs.rules.said_between.Goals as goal

pub returns-in_err-first-clause-gives : goal.returns-in_err-first-clause-gives
returns-in_err-first-clause-gives g c =
    let p = err_from_is_err_and c.from_residual.result c.from_residual.ensures.1 in
    let content = c.args.store.now in
    rw (p.1, p.2) (Ends-first (field name (known_layer_name content)) (said_after_first content c.args.form) c.in_err-first.field-0.0 _ _ _ c.in_err-first.ensures)

pub returns-in_err-ask-clause-gives : goal.returns-in_err-ask-clause-gives
returns-in_err-ask-clause-gives g c =
    let p = err_from_is_err_and c.from_residual-in_err-ask.result c.from_residual-in_err-ask.ensures.1 in
    let content = c.args.store.now in
    let form = c.args.form in
    let whole = said content (Between form) in
    let one = Goes-then (field name (known_layer_name content)) (said_after_first content form) c.in_ok-first.first _ _ _ _ c.in_ok-first.ensures in
    rw (p.1, p.2) (Ends-step whole ask (λ (asked : Ask). said_after_ask content form c.in_ok-first.first (Matrix asked)) c.in_err-ask.field-0.0 _ _ _ _ _ one c.in_err-ask.ensures)

pub returns-in_err-second-clause-gives : goal.returns-in_err-second-clause-gives
returns-in_err-second-clause-gives g c =
    let p = err_from_is_err_and c.from_residual-in_err-second.result c.from_residual-in_err-second.ensures.1 in
    let content = c.args.store.now in
    let form = c.args.form in
    let whole = said content (Between form) in
    let one = Goes-then (field name (known_layer_name content)) (said_after_first content form) c.in_ok-first.first _ _ _ _ c.in_ok-first.ensures in
    let two = Goes-step whole ask (λ (asked : Ask). said_after_ask content form c.in_ok-first.first (Matrix asked)) c.in_ok-ask.ask _ _ _ _ _ _ one c.in_ok-ask.ensures in
    rw (p.1, p.2) (Ends-step whole (field name (known_layer_name content)) (λ second. done (OfLayers (record { form = form; first = c.in_ok-first.first; ask = Matrix c.in_ok-ask.ask; second = second })))
    c.in_err-second.field-0.0 _ _ _ _ _ two c.in_err-second.ensures)

pub returns-clause-gives : goal.returns-clause-gives
returns-clause-gives g c =
    let content = c.args.store.now in
    let form = c.args.form in
    let whole = said content (Between form) in
    let one = Goes-then (field name (known_layer_name content)) (said_after_first content form) c.in_ok-first.first _ _ _ _ c.in_ok-first.ensures in
    let two = Goes-step whole ask (λ (asked : Ask). said_after_ask content form c.in_ok-first.first (Matrix asked)) c.in_ok-ask.ask _ _ _ _ _ _ one c.in_ok-ask.ensures in
    Goes-step whole (field name (known_layer_name content)) (λ second. done (OfLayers (record { form = form; first = c.in_ok-first.first; ask = Matrix c.in_ok-ask.ask; second = second })))
    c.in_ok-second.second _ _ _ _ _ _ two c.in_ok-second.ensures

pub returns-clause-there : goal.returns-clause-there
returns-clause-there g c =
    let content = c.args.store.now in
    both (has_layer content c.in_ok-first.first) (has_layer content c.in_ok-second.second)
    (Takes-known_layer content c.in_ok-first.first _ _ _ _ c.in_ok-first.ensures) (Takes-known_layer content c.in_ok-second.second _ _ _ _ c.in_ok-second.ensures)
