use Rattle.std.proofs.Common.{sym, subst}
use Rattle.std.specs.Prelude.{IsTrue}
use Rattle.std.proofs.lemmas.Result.{err_from_is_err_and}
use Rattle.sf_features.specs.Values.{is_of_type}
use Rattle.sf_format.specs.Readings.{done, field, number}
use Rattle.sf_format.specs.Format.{next_column_of, typed_value}
use Rattle.sf_format.proofs.Continuations.{value_after_column}
use Rattle.sf_loading.specs.Streaming.{Ends, Takes}
use Rattle.sf_loading.specs.Types.{value_above}
use Rattle.sf_loading.proofs.FieldLaws.{Takes-passed}
use Rattle.sf_loading.proofs.StreamLaws.{Ends-step, Goes-step, Goes-then}
use Rattle.sf_loading.proofs.TypeLaws.{value-fits}
use Rattle.sf_loading.proofs.values.value.Goals as goal

pub returns-in_err-value-clause-gives : goal.returns-in_err-value-clause-gives
returns-in_err-value-clause-gives g c = λ columns are.
    let p = err_from_is_err_and c.from_residual-in_err-value.result c.from_residual-in_err-value.ensures.1 in
    let found = c.in_ok-number.ensures.gives columns are in
    let before = c.args.previous in
    let halt = c.in_err-value.field-0.0 in
    rw (p.1, p.2) (Ends-step (value_above columns before) (typed_value found.0.column_type) (λ content. done (found.0.number, content)) halt _ _ _ _ _
    (Goes-then (field (number 2) (next_column_of columns before)) value_after_column found.0 _ _ _ _ found.1)
    (subst (λ t. Ends (typed_value t) (g.R.Read.remaining c.value_column.new.reader) (g.R.Read.remaining c.typed_value.new.reader) c.value_column.new.window halt) (sym found.3) c.in_err-value.ensures.gives))

pub returns-clause-gives : goal.returns-clause-gives
returns-clause-gives g c = λ columns are.
    let found = c.in_ok-number.ensures.gives columns are in
    let before = c.args.previous in
    let value = c.in_ok-value.value in
    subst (λ m. Takes (value_above columns before) (m, value) (g.R.Read.remaining c.args.reader.now) (g.R.Read.remaining c.typed_value.new.reader) c.args.window.now c.typed_value.new.window) found.2
    (Goes-step (value_above columns before) (typed_value found.0.column_type) (λ content. done (found.0.number, content)) value _ _ _ _ _ _
    (Goes-then (field (number 2) (next_column_of columns before)) value_after_column found.0 _ _ _ _ found.1)
    (subst (λ t. Takes (typed_value t) value (g.R.Read.remaining c.value_column.new.reader) (g.R.Read.remaining c.typed_value.new.reader) c.value_column.new.window c.typed_value.new.window) (sym found.3) c.in_ok-value.ensures.gives))

pub returns-clause-fits : goal.returns-clause-fits
returns-clause-fits g c = λ columns are.
    let found = c.in_ok-number.ensures.gives columns are in
    let passed = Takes-passed (number 2) (next_column_of columns c.args.previous) found.0 _ _ _ _ found.1 in
    value-fits columns c.args.previous passed.0 c.in_ok-number.number found.0 c.in_ok-value.value passed.1 found.2
    (subst (λ t. IsTrue (is_of_type t c.in_ok-value.value)) (sym found.3) c.in_ok-value.ensures.typed)
