use Rattle.std.proofs.Common.{◌≡◌, true, ℕ, List, Some, refl, subst}
use Rattle.std.proofs.lemmas.Result.{err_from_is_err_and}
use Rattle.sf_features.specs.declared.column_type.ColumnType.{ColumnType}
use Rattle.sf_layers.specs.Content.{layer_of}
use Rattle.sf_format.specs.Stored.{OfValues, fits_column}
use Rattle.sf_format.specs.declared.rule_form.RuleForm.TheVariants.{OnValues}
use Rattle.sf_format.specs.Readings.{done, field}
use Rattle.sf_format.specs.Format.{demanded, known_column, known_layer_name, name, said, type_in}
use Rattle.sf_format.proofs.Continuations.{said_after_column, said_after_layer}
use Rattle.sf_format.proofs.NamedValues.{column-typed, demanded-tells}
use Rattle.sf_format.proofs.Promises.{Tells}
use Rattle.sf_loading.specs.Streaming.{Ends, Takes}
use Rattle.sf_loading.proofs.StreamLaws.{Ends-first, Ends-step, Goes-step, Goes-then, Takes-tells}
use Rattle.sf_loading.proofs.FieldLaws.{Takes-known_column}
use Rattle.sf_loading.proofs.rules.said_on_values.Goals as goal

pub returns-in_err-layer-clause-gives : goal.returns-in_err-layer-clause-gives
returns-in_err-layer-clause-gives g c =
    let p = err_from_is_err_and c.from_residual.result c.from_residual.ensures.1 in
    let content = c.args.store.now in
    rw (p.1, p.2) (Ends-first (field name (known_layer_name content)) (said_after_layer content c.args.form) c.in_err-layer.field-0.0 _ _ _ c.in_err-layer.ensures)

pub returns-in_err-column-clause-gives : goal.returns-in_err-column-clause-gives
returns-in_err-column-clause-gives g c =
    let p = err_from_is_err_and c.from_residual-in_err-column.result c.from_residual-in_err-column.ensures.1 in
    let content = c.args.store.now in
    let form = c.args.form in
    let layer = c.in_ok-layer.layer in
    let whole = said content (OnValues form) in
    let one = Goes-then (field name (known_layer_name content)) (said_after_layer content form) layer _ _ _ _ c.in_ok-layer.ensures in
    let halt = c.in_err-column.field-0.0 in
    rw (p.1, p.2) (Ends-step whole (field name (known_column content layer)) (said_after_column form layer) halt _ _ _ _ _ one
    (subst (λ (n : List ℕ). Ends (field name (known_column content n)) (g.R.Read.remaining c.known_layer.new.reader) (g.R.Read.remaining c.known_column.new.reader) c.known_layer.new.window halt) c.as_str.ensures c.in_err-column.ensures))

pub returns-in_err-demand-clause-gives : goal.returns-in_err-demand-clause-gives
returns-in_err-demand-clause-gives g c =
    let p = err_from_is_err_and c.from_residual-in_err-demand.result c.from_residual-in_err-demand.ensures.1 in
    let content = c.args.store.now in
    let form = c.args.form in
    let layer = c.in_ok-layer.layer in
    let column : List ℕ × ColumnType = (c.in_ok-column.column, c.in_ok-column.column_type) in
    let whole = said content (OnValues form) in
    let one = Goes-then (field name (known_layer_name content)) (said_after_layer content form) layer _ _ _ _ c.in_ok-layer.ensures in
    let two = Goes-step whole (field name (known_column content layer)) (said_after_column form layer) column _ _ _ _ _ _ one
    (subst (λ (n : List ℕ). Takes (field name (known_column content n)) column (g.R.Read.remaining c.known_layer.new.reader) (g.R.Read.remaining c.known_column.new.reader) c.known_layer.new.window c.known_column.new.window) c.as_str.ensures c.in_ok-column.ensures) in
    rw (p.1, p.2) (Ends-step whole (demanded column.1 form) (λ demand. done (OfValues (record { demand = demand; layer = layer; column = column.0 }))) c.in_err-demand.field-0.0 _ _ _ _ _ two c.in_err-demand.ensures)

pub returns-clause-gives : goal.returns-clause-gives
returns-clause-gives g c =
    let content = c.args.store.now in
    let form = c.args.form in
    let layer = c.in_ok-layer.layer in
    let column : List ℕ × ColumnType = (c.in_ok-column.column, c.in_ok-column.column_type) in
    let whole = said content (OnValues form) in
    let one = Goes-then (field name (known_layer_name content)) (said_after_layer content form) layer _ _ _ _ c.in_ok-layer.ensures in
    let two = Goes-step whole (field name (known_column content layer)) (said_after_column form layer) column _ _ _ _ _ _ one
    (subst (λ (n : List ℕ). Takes (field name (known_column content n)) column (g.R.Read.remaining c.known_layer.new.reader) (g.R.Read.remaining c.known_column.new.reader) c.known_layer.new.window c.known_column.new.window) c.as_str.ensures c.in_ok-column.ensures) in
    Goes-step whole (demanded column.1 form) (λ demand. done (OfValues (record { demand = demand; layer = layer; column = column.0 }))) c.in_ok-demand.demand _ _ _ _ _ _ two c.in_ok-demand.ensures

pub returns-clause-there : goal.returns-clause-there
returns-clause-there g c =
    let content = c.args.store.now in
    let form = c.args.form in
    let layer = c.in_ok-layer.layer in
    let demand = c.in_ok-demand.demand in
    let column : List ℕ × ColumnType = (c.in_ok-column.column, c.in_ok-column.column_type) in
    let is : type_in (layer_of content layer) column.0 ≡ Some column.1 =
    subst (λ (n : List ℕ). type_in (layer_of content n) column.0 ≡ Some column.1) c.as_str.ensures (Takes-known_column content c.as_str.result.now column _ _ _ _ c.in_ok-column.ensures) in
    let there = column-typed (layer_of content layer) column.0 column.1 is in
    let tells = subst (λ t. Tells (demanded t form) (λ d. fits_column d (Some there.0) ≡ true)) there.1 (demanded-tells there.0 form) in
    there.2 (record { demand = demand; layer = layer; column = column.0 }) refl
    (Takes-tells (demanded column.1 form) (λ d. fits_column d (Some there.0) ≡ true) demand _ _ _ _ tells c.in_ok-demand.ensures)
