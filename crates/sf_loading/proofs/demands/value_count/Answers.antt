use Rattle.std.proofs.Common.{◌&&◌, ℕ, ap, sym}
use Rattle.std.specs.Prelude.{nat_le, nat_lt}
use Rattle.sf_format.specs.declared.defect.Defect.TheVariants.{WrongValue}
use Rattle.sf_format.specs.Readings.{number}
use Rattle.sf_format.specs.Format.{allowed, values_max}
use Rattle.sf_loading.proofs.StreamLaws.{Gives-ruled}
use Rattle.sf_loading.proofs.demands.value_count.Goals as goal

pub returns : goal.returns
returns g c =
    let count = c.in_ok-count.count in
    Gives-ruled (λ n. n) (number 2) (λ (n : ℕ). allowed (nat_lt 0 n && nat_le n values_max) WrongValue n) count (allowed c.are_some.result WrongValue count) c.place-place.result
    c.allowed.result _ _ _ _ c.place-place.ensures c.in_ok-count.ensures (ap (λ b. allowed b WrongValue count) (sym c.are_some.ensures)) c.allowed.ensures
