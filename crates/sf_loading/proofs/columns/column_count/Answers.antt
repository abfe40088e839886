use Rattle.std.proofs.Common.{ℕ}
use Rattle.std.specs.Prelude.{nat_lt}
use Rattle.sf_format.specs.declared.defect.Defect.TheVariants.{ColumnsExhausted}
use Rattle.sf_format.specs.Readings.{number}
use Rattle.sf_format.specs.Format.{allowed}
use Rattle.sf_loading.proofs.StreamLaws.{Gives-judged}
use Rattle.sf_loading.proofs.columns.column_count.Goals as goal

pub returns : goal.returns
returns g c = Gives-judged (λ n. n) (number 2) (λ (n : ℕ). allowed (nat_lt n c.args.next_column) ColumnsExhausted n) c.in_ok-count.count c.place-place.result
    c.allowed.result _ _ _ _ c.place-place.ensures c.in_ok-count.ensures c.allowed.ensures
