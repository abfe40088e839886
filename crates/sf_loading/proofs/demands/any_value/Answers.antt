use Rattle.std.proofs.Common.{ℕ}
use Rattle.std.proofs.lemmas.Result.{err_from_is_err_and}
use Rattle.sf_format.specs.declared.defect.Defect.TheVariants.{WrongValue}
use Rattle.sf_format.specs.Readings.{done, field, number}
use Rattle.sf_format.specs.Format.{any_value, own_value, present, type_of_byte}
use Rattle.sf_loading.proofs.StreamLaws.{Ends-first, Goes-then, Reaches-after}
use Rattle.sf_loading.proofs.demands.any_value.Goals as goal

pub returns-in_err-own : goal.returns-in_err-own
returns-in_err-own g c =
    let p = err_from_is_err_and c.from_residual.result c.from_residual.ensures.1 in
    rw (p.1, p.2) (Ends-first (field (number 1) (λ (byte : ℕ). present (type_of_byte byte) WrongValue)) own_value c.in_err-own.field-0.0 _ _ _ c.in_err-own.ensures)

pub returns : goal.returns
returns g c = Reaches-after any_value (own_value c.in_ok-own.own) (λ v. done v) c.own_value.result _ _ _ _ _ _
    (Goes-then (field (number 1) (λ (byte : ℕ). present (type_of_byte byte) WrongValue)) own_value c.in_ok-own.own _ _ _ _ c.in_ok-own.ensures)
    c.own_value.ensures
