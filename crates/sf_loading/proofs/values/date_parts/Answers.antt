use Rattle.std.proofs.lemmas.Result.{err_from_is_err_and}
use Rattle.sf_format.specs.Readings.{done, number}
use Rattle.sf_format.specs.Format.{date_parts}
use Rattle.sf_format.proofs.Continuations.{date_after_month, date_after_year}
use Rattle.sf_loading.proofs.StreamLaws.{Ends-first, Ends-step, Goes-step, Goes-then}
use Rattle.sf_loading.proofs.values.date_parts.Goals as goal

pub returns-in_err-year : goal.returns-in_err-year
returns-in_err-year g c =
    let p = err_from_is_err_and c.from_residual.result c.from_residual.ensures.1 in
    rw (p.1, p.2) (Ends-first (number 2) date_after_year c.in_err-year.field-0.0 _ _ _ c.in_err-year.ensures)

pub returns-in_err-month : goal.returns-in_err-month
returns-in_err-month g c =
    let p = err_from_is_err_and c.from_residual-in_err-month.result c.from_residual-in_err-month.ensures.1 in
    let year = c.in_ok-year.year in
    rw (p.1, p.2) (Ends-step date_parts (number 1) (date_after_month year) c.in_err-month.field-0.0 _ _ _ _ _
    (Goes-then (number 2) date_after_year year _ _ _ _ c.in_ok-year.ensures) c.in_err-month.ensures)

pub returns-in_err-day : goal.returns-in_err-day
returns-in_err-day g c =
    let p = err_from_is_err_and c.from_residual-in_err-day.result c.from_residual-in_err-day.ensures.1 in
    let year = c.in_ok-year.year in
    let month = c.in_ok-month.month in
    rw (p.1, p.2) (Ends-step date_parts (number 1) (λ n. done (record { year = year; month = month; day = n })) c.in_err-day.field-0.0 _ _ _ _ _
    (Goes-step date_parts (number 1) (date_after_month year) month _ _ _ _ _ _
    (Goes-then (number 2) date_after_year year _ _ _ _ c.in_ok-year.ensures) c.in_ok-month.ensures) c.in_err-day.ensures)

pub returns : goal.returns
returns g c =
    let year = c.in_ok-year.year in
    let month = c.in_ok-month.month in
    Goes-step date_parts (number 1) (λ n. done (record { year = year; month = month; day = n })) c.in_ok-day.day _ _ _ _ _ _
    (Goes-step date_parts (number 1) (date_after_month year) month _ _ _ _ _ _
    (Goes-then (number 2) date_after_year year _ _ _ _ c.in_ok-year.ensures) c.in_ok-month.ensures) c.in_ok-day.ensures
