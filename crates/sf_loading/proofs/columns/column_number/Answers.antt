use Rattle.std.proofs.Common.{ap, sym}
use Rattle.sf_format.specs.declared.defect.Defect.TheVariants.{ColumnsExhausted}
use Rattle.sf_format.specs.Readings.{number}
use Rattle.sf_format.specs.Format.{allowed, fresh_number}
use Rattle.sf_loading.proofs.StreamLaws.{Gives-ruled}
use Rattle.sf_loading.proofs.columns.column_number.Goals as goal

pub returns : goal.returns
returns g c =
    let n = c.in_ok-number.number in
    Gives-ruled (λ m. m) (number 2) (fresh_number c.args.layer.now.next_column c.args.layer.now.columns) n (allowed c.is_fresh.result ColumnsExhausted n) c.place-place.result
    c.allowed.result _ _ _ _ c.place-place.ensures c.in_ok-number.ensures (ap (λ t. allowed t ColumnsExhausted n) (sym c.is_fresh.ensures)) c.allowed.ensures
