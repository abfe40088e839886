use Rattle.std.proofs.Common.{ℕ}
use Rattle.std.proofs.lemmas.Result.{err_from_is_err_and}
use Rattle.sf_format.specs.declared.defect.Defect.TheVariants.{BadFile}
use Rattle.sf_format.specs.Readings.{done, field, number}
use Rattle.sf_format.specs.Format.{end_value, ends_of_byte, present, range_parts}
use Rattle.sf_format.proofs.Continuations.{range_after_ends, range_after_from}
use Rattle.sf_loading.proofs.StreamLaws.{Ends-first, Ends-step, Goes-step, Goes-then}
use Rattle.sf_loading.proofs.demands.range_parts.Goals as goal

pub returns-in_err-ends : goal.returns-in_err-ends
returns-in_err-ends g c =
    let p = err_from_is_err_and c.from_residual.result c.from_residual.ensures.1 in
    rw (p.1, p.2) (Ends-first (field (number 1) (λ (byte : ℕ). present (ends_of_byte byte) BadFile)) (range_after_ends c.args.column_type) c.in_err-ends.field-0.0 _ _ _ c.in_err-ends.ensures)

pub returns-in_err-from : goal.returns-in_err-from
returns-in_err-from g c =
    let p = err_from_is_err_and c.from_residual-in_err-from.result c.from_residual-in_err-from.ensures.1 in
    let t = c.args.column_type in
    let ends = c.in_ok-ends.ends in
    let one = Goes-then (field (number 1) (λ (byte : ℕ). present (ends_of_byte byte) BadFile)) (range_after_ends t) ends _ _ _ _ c.in_ok-ends.ensures in
    rw (p.1, p.2) (Ends-step (range_parts t) (end_value t ends.from) (range_after_from t ends) c.in_err-from.field-0.0 _ _ _ _ _ one c.in_err-from.ensures)

pub returns-in_err-to : goal.returns-in_err-to
returns-in_err-to g c =
    let p = err_from_is_err_and c.from_residual-in_err-to.result c.from_residual-in_err-to.ensures.1 in
    let t = c.args.column_type in
    let ends = c.in_ok-ends.ends in
    let from = c.in_ok-from.from in
    let one = Goes-then (field (number 1) (λ (byte : ℕ). present (ends_of_byte byte) BadFile)) (range_after_ends t) ends _ _ _ _ c.in_ok-ends.ensures in
    let two = Goes-step (range_parts t) (end_value t ends.from) (range_after_from t ends) from _ _ _ _ _ _ one c.in_ok-from.ensures in
    rw (p.1, p.2) (Ends-step (range_parts t) (end_value t ends.to) (λ to. done (record { from = from; to = to })) c.in_err-to.field-0.0 _ _ _ _ _ two c.in_err-to.ensures)

pub returns : goal.returns
returns g c =
    let t = c.args.column_type in
    let ends = c.in_ok-ends.ends in
    let from = c.in_ok-from.from in
    let one = Goes-then (field (number 1) (λ (byte : ℕ). present (ends_of_byte byte) BadFile)) (range_after_ends t) ends _ _ _ _ c.in_ok-ends.ensures in
    let two = Goes-step (range_parts t) (end_value t ends.from) (range_after_from t ends) from _ _ _ _ _ _ one c.in_ok-from.ensures in
    Goes-step (range_parts t) (end_value t ends.to) (λ to. done (record { from = from; to = to })) c.in_ok-to.to _ _ _ _ _ _ two c.in_ok-to.ensures
