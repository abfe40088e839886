use Rattle.std.proofs.Common.{ap, not, sym}
use Rattle.std.proofs.lemmas.Result.{err_from_is_err_and}
use Rattle.sf_layers.specs.Found.{are_apart}
use Rattle.sf_layers.specs.declared.value_range.ValueRange.{ValueRange}
use Rattle.sf_format.specs.declared.defect.Defect.TheVariants.{WrongValue}
use Rattle.sf_format.specs.Format.{allowed, range_parts}
use Rattle.sf_loading.proofs.StreamLaws.{Ends-field, Gives-ruled}
use Rattle.sf_loading.proofs.demands.allowed_range.Goals as goal

pub returns-in_err-range : goal.returns-in_err-range
returns-in_err-range g c =
    let p = err_from_is_err_and c.from_residual.result c.from_residual.ensures.1 in
    rw (p.1, p.2) (Ends-field (range_parts c.args.column_type) (λ (range : ValueRange). allowed (not (are_apart range.from range.to)) WrongValue range) c.in_err-range.field-0.0 _ _ _ c.in_err-range.ensures)

pub returns : goal.returns
returns g c =
    let range = c.in_ok-range.range in
    Gives-ruled (λ range. range) (range_parts c.args.column_type) (λ (range : ValueRange). allowed (not (are_apart range.from range.to)) WrongValue range) range
    (allowed (not c.is_empty-has_some.result) WrongValue range) c.place-place.result
    c.allowed.result _ _ _ _ c.place-place.ensures c.in_ok-range.ensures (ap (λ b. allowed (not b) WrongValue range) (sym c.is_empty-has_some.ensures)) c.allowed.ensures
