use Rattle.std.proofs.Common.{ap, sym}
use Rattle.std.proofs.lemmas.Result.{err_from_is_err_and}
use Rattle.sf_decimals.specs.declared.number.Number.{Number}
use Rattle.sf_format.specs.declared.defect.Defect.TheVariants.{WrongValue}
use Rattle.sf_format.specs.Format.{decimal_parts, fraction_in, present}
use Rattle.sf_loading.proofs.StreamLaws.{Ends-field, Gives-ruled}
use Rattle.sf_loading.proofs.demands.fraction_value.Goals as goal

pub returns-in_err-parts : goal.returns-in_err-parts
returns-in_err-parts g c =
    let p = err_from_is_err_and c.from_residual.result c.from_residual.ensures.1 in
    rw (p.1, p.2) (Ends-field decimal_parts (λ (parts : Number). present (fraction_in parts) WrongValue) c.in_err-parts.field-0.0 _ _ _ c.in_err-parts.ensures)

pub returns : goal.returns
returns g c = Gives-ruled (λ v. v) decimal_parts (λ (parts : Number). present (fraction_in parts) WrongValue) c.in_ok-parts.parts (present c.fraction_in.result WrongValue) c.place-place.result
    c.present.result _ _ _ _ c.place-place.ensures c.in_ok-parts.ensures (ap (λ k. present k WrongValue) (sym c.fraction_in.ensures)) c.present.ensures
