use Rattle.std.proofs.Common.{Option}
use Rattle.std.proofs.lemmas.Result.{err_from_is_err_and}
use Rattle.sf_format.specs.Stored.{Ask}
use Rattle.sf_format.specs.declared.defect.Defect.TheVariants.{BadPattern}
use Rattle.sf_format.specs.Format.{asked, present}
use Rattle.sf_loading.proofs.StreamLaws.{Ends-field, Gives-judged}
use Rattle.sf_loading.proofs.asks.ask.Goals as goal

pub returns-in_err-asked : goal.returns-in_err-asked
returns-in_err-asked g c =
    let p = err_from_is_err_and c.from_residual.result c.from_residual.ensures.1 in
    rw (p.1, p.2) (Ends-field asked (λ (found : Option Ask). present found BadPattern) c.in_err-asked.field-0.0 _ _ _ c.in_err-asked.ensures)

pub returns : goal.returns
returns g c =
    Gives-judged (λ a. a) asked (λ (found : Option Ask). present found BadPattern) c.in_ok-asked.asked c.place-place.result c.present.result _ _ _ _
    c.place-place.ensures c.in_ok-asked.ensures c.present.ensures
