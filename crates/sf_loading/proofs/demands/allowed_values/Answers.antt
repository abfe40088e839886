use Rattle.std.proofs.Common.{◌&&◌, ℕ}
use Rattle.std.specs.Prelude.{nat_le, nat_lt}
use Rattle.std.proofs.lemmas.Result.{err_from_is_err_and}
use Rattle.sf_format.specs.declared.defect.Defect.TheVariants.{WrongValue}
use Rattle.sf_format.specs.Readings.{done, field, number}
use Rattle.sf_format.specs.Format.{allowed, allowed_values, values_max}
use Rattle.sf_format.proofs.Continuations.{values_after_count}
use Rattle.sf_loading.proofs.StreamLaws.{Ends-first, Goes-then, Reaches-after}
use Rattle.sf_loading.proofs.demands.allowed_values.Goals as goal

pub returns-in_err-count : goal.returns-in_err-count
returns-in_err-count g c =
    let p = err_from_is_err_and c.from_residual.result c.from_residual.ensures.1 in
    rw (p.1, p.2) (Ends-first (field (number 2) (λ (n : ℕ). allowed (nat_lt 0 n && nat_le n values_max) WrongValue n)) (values_after_count c.args.column_type) c.in_err-count.field-0.0 _ _ _ c.in_err-count.ensures)

pub returns : goal.returns
returns g c =
    let t = c.args.column_type in
    let count = c.in_ok-count.count in
    Reaches-after (allowed_values t) (values_after_count t count) (λ values. done values.items) c.counted_values.result _ _ _ _ _ _
    (Goes-then (field (number 2) (λ (n : ℕ). allowed (nat_lt 0 n && nat_le n values_max) WrongValue n)) (values_after_count t) count _ _ _ _ c.in_ok-count.ensures) c.counted_values.ensures
