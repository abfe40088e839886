use Rattle.std.proofs.lemmas.Result.{err_from_is_err_and}
use Rattle.sf_format.specs.Readings.{done, number}
use Rattle.sf_format.specs.Format.{date_parts, moment_parts}
use Rattle.sf_format.proofs.Continuations.{moment_after_date}
use Rattle.sf_loading.proofs.StreamLaws.{Ends-first, Ends-step, Goes-step, Goes-then}
use Rattle.sf_loading.proofs.values.moment_parts.Goals as goal

pub returns-in_err-date : goal.returns-in_err-date
returns-in_err-date g c =
    let p = err_from_is_err_and c.from_residual.result c.from_residual.ensures.1 in
    rw (p.1, p.2) (Ends-first date_parts moment_after_date c.in_err-date.field-0.0 _ _ _ c.in_err-date.ensures)

pub returns-in_err-millisecond : goal.returns-in_err-millisecond
returns-in_err-millisecond g c =
    let p = err_from_is_err_and c.from_residual-in_err-millisecond.result c.from_residual-in_err-millisecond.ensures.1 in
    let day = c.in_ok-date.date in
    rw (p.1, p.2) (Ends-step moment_parts (number 4) (λ n. done (record { date = day; millisecond = n })) c.in_err-millisecond.field-0.0 _ _ _ _ _
    (Goes-then date_parts moment_after_date day _ _ _ _ c.in_ok-date.ensures) c.in_err-millisecond.ensures)

pub returns : goal.returns
returns g c =
    let day = c.in_ok-date.date in
    Goes-step moment_parts (number 4) (λ n. done (record { date = day; millisecond = n })) c.in_ok-millisecond.millisecond _ _ _ _ _ _
    (Goes-then date_parts moment_after_date day _ _ _ _ c.in_ok-date.ensures) c.in_ok-millisecond.ensures
