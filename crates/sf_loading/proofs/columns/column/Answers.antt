use Rattle.std.proofs.Common.{ℕ}
use Rattle.std.proofs.lemmas.Result.{err_from_is_err_and}
use Rattle.sf_format.specs.declared.defect.Defect.TheVariants.{WrongValue}
use Rattle.sf_format.specs.Readings.{done, field, number}
use Rattle.sf_format.specs.Format.{column, fresh_column_name, fresh_number, name, present, type_of_byte}
use Rattle.sf_format.proofs.Continuations.{column_after_number, column_after_type}
use Rattle.sf_loading.proofs.StreamLaws.{Ends-step, Goes-step, Goes-then}
use Rattle.sf_loading.proofs.FieldLaws.{Takes-column_name, Takes-column_number}
use Rattle.sf_loading.proofs.columns.column.Goals as goal

pub returns-in_err-column_type-clause-gives : goal.returns-in_err-column_type-clause-gives
returns-in_err-column_type-clause-gives g c =
    let p = err_from_is_err_and c.from_residual-in_err-column_type.result c.from_residual-in_err-column_type.ensures.1 in
    let columns = c.args.layer.now.columns in
    let next = c.args.layer.now.next_column in
    let n = c.in_ok-number.number in
    rw (p.1, p.2) (Ends-step (column next columns) (field (number 1) (λ (byte : ℕ). present (type_of_byte byte) WrongValue)) (column_after_type columns n) c.in_err-column_type.field-0.0 _ _ _ _ _
    (Goes-then (field (number 2) (fresh_number next columns)) (column_after_number columns) n _ _ _ _ c.in_ok-number.ensures) c.in_err-column_type.ensures)

pub returns-in_err-name-clause-gives : goal.returns-in_err-name-clause-gives
returns-in_err-name-clause-gives g c =
    let p = err_from_is_err_and c.from_residual-in_err-name.result c.from_residual-in_err-name.ensures.1 in
    let columns = c.args.layer.now.columns in
    let next = c.args.layer.now.next_column in
    let n = c.in_ok-number.number in
    let t = c.in_ok-column_type.column_type in
    rw (p.1, p.2) (Ends-step (column next columns) (field name (fresh_column_name columns)) (λ text. done (record { number = n; name = text; column_type = t })) c.in_err-name.field-0.0 _ _ _ _ _
    (Goes-step (column next columns) (field (number 1) (λ (byte : ℕ). present (type_of_byte byte) WrongValue)) (column_after_type columns n) t _ _ _ _ _ _
    (Goes-then (field (number 2) (fresh_number next columns)) (column_after_number columns) n _ _ _ _ c.in_ok-number.ensures) c.in_ok-column_type.ensures) c.in_err-name.ensures)

pub returns-clause-gives : goal.returns-clause-gives
returns-clause-gives g c =
    let columns = c.args.layer.now.columns in
    let next = c.args.layer.now.next_column in
    let n = c.in_ok-number.number in
    let t = c.in_ok-column_type.column_type in
    Goes-step (column next columns) (field name (fresh_column_name columns)) (λ text. done (record { number = n; name = text; column_type = t })) c.in_ok-name.name _ _ _ _ _ _
    (Goes-step (column next columns) (field (number 1) (λ (byte : ℕ). present (type_of_byte byte) WrongValue)) (column_after_type columns n) t _ _ _ _ _ _
    (Goes-then (field (number 2) (fresh_number next columns)) (column_after_number columns) n _ _ _ _ c.in_ok-number.ensures) c.in_ok-column_type.ensures) c.in_ok-name.ensures

pub returns-clause-fits : goal.returns-clause-fits
returns-clause-fits g c = (
  (Takes-column_name c.args.layer.now.columns c.in_ok-name.name _ _ _ _ c.in_ok-name.ensures).0,
  (Takes-column_number c.args.layer.now.next_column c.args.layer.now.columns c.in_ok-number.number _ _ _ _ c.in_ok-number.ensures).0,
)

pub returns-clause-free : goal.returns-clause-free
returns-clause-free g c = (Takes-column_name c.args.layer.now.columns c.in_ok-name.name _ _ _ _ c.in_ok-name.ensures).1

pub returns-clause-unused : goal.returns-clause-unused
returns-clause-unused g c = (Takes-column_number c.args.layer.now.next_column c.args.layer.now.columns c.in_ok-number.number _ _ _ _ c.in_ok-number.ensures).1
