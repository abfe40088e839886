use Rattle.std.proofs.Common.{ap, sym}
use Rattle.std.proofs.lemmas.Result.{err_from_is_err_and}
use Rattle.sf_features.specs.declared.attr_value.AttrValue.{AttrValue}
use Rattle.sf_features.specs.Values.{is_of_type}
use Rattle.sf_format.specs.declared.defect.Defect.TheVariants.{WrongValue}
use Rattle.sf_format.specs.Format.{allowed, any_value}
use Rattle.sf_loading.proofs.StreamLaws.{Ends-field, Gives-ruled}
use Rattle.sf_loading.proofs.demands.named_value.Goals as goal

pub returns-in_err-value : goal.returns-in_err-value
returns-in_err-value g c =
    let p = err_from_is_err_and c.from_residual.result c.from_residual.ensures.1 in
    rw (p.1, p.2) (Ends-field any_value (λ (value : AttrValue). allowed (is_of_type c.args.column_type value) WrongValue value) c.in_err-value.field-0.0 _ _ _ c.in_err-value.ensures)

pub returns : goal.returns
returns g c =
    let value = c.in_ok-value.value in
    Gives-ruled (λ v. v) any_value (λ (value : AttrValue). allowed (is_of_type c.args.column_type value) WrongValue value) value (allowed c.is_of_type-fits.result WrongValue value) c.place-place.result
    c.allowed.result _ _ _ _ c.place-place.ensures c.in_ok-value.ensures (ap (λ b. allowed b WrongValue value) (sym c.is_of_type-fits.ensures)) c.allowed.ensures
