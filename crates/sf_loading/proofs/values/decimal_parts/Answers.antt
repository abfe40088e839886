use Rattle.std.proofs.Common.{SFits, rules, w64}
use Rattle.std.proofs.lemmas.Int.{to_z-of_z}
use Rattle.std.proofs.lemmas.Result.{err_from_is_err_and}
use Rattle.sf_format.specs.Readings.{done, number}
use Rattle.sf_format.specs.Format.{decimal_parts, signed_number}
use Rattle.sf_format.proofs.Continuations.{decimal_after_mantissa}
use Rattle.sf_loading.proofs.StreamLaws.{Ends-first, Ends-step, Goes-step, Goes-then}
use Rattle.sf_loading.proofs.values.decimal_parts.Goals as goal

pub returns-in_err-mantissa : goal.returns-in_err-mantissa
returns-in_err-mantissa g c =
    let p = err_from_is_err_and c.from_residual.result c.from_residual.ensures.1 in
    rw (p.1, p.2) (Ends-first signed_number decimal_after_mantissa c.in_err-mantissa.field-0.0 _ _ _ c.in_err-mantissa.ensures)

pub returns-in_err-places : goal.returns-in_err-places
returns-in_err-places g c =
    let p = err_from_is_err_and c.from_residual-in_err-places.result c.from_residual-in_err-places.ensures.1 in
    let m = c.in_ok-mantissa.mantissa in
    rw (p.1, p.2) (Ends-step decimal_parts (number 1) (λ n. done (record { mantissa = m; places = n })) c.in_err-places.field-0.0 _ _ _ _ _
    (Goes-then signed_number decimal_after_mantissa m _ _ _ _ c.in_ok-mantissa.ensures) c.in_err-places.ensures)

pub returns : goal.returns
returns g c =
    let m = c.in_ok-mantissa.mantissa in
    let fits : SFits w64 m = search rules in
    rw (to_z-of_z w64 m fits) (Goes-step decimal_parts (number 1) (λ n. done (record { mantissa = m; places = n })) c.in_ok-places.places _ _ _ _ _ _
    (Goes-then signed_number decimal_after_mantissa m _ _ _ _ c.in_ok-mantissa.ensures) c.in_ok-places.ensures)
