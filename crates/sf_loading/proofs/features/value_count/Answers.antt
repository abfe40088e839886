use Rattle.std.proofs.Common.{ℕ, ap, sym}
use Rattle.std.specs.Prelude.{length, nat_le}
use Rattle.sf_format.specs.declared.defect.Defect.TheVariants.{NoColumn}
use Rattle.sf_format.specs.Readings.{number}
use Rattle.sf_format.specs.Format.{allowed}
use Rattle.sf_loading.proofs.StreamLaws.{Gives-ruled}
use Rattle.sf_loading.proofs.features.value_count.Goals as goal

pub returns : goal.returns
returns g c =
    let n = c.in_ok-count.count in
    Gives-ruled (λ m. m) (number 2) (λ (m : ℕ). allowed (nat_le m (length c.args.layer.now.columns)) NoColumn m) n (allowed (nat_le n c.column_count.result) NoColumn n) c.place-place.result
    c.allowed.result _ _ _ _ c.place-place.ensures c.in_ok-count.ensures (ap (λ k. allowed (nat_le n k) NoColumn n) (sym c.column_count.ensures.count)) c.allowed.ensures
