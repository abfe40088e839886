use Rattle.std.proofs.Common.{ℕ}
use Rattle.std.specs.Prelude.{nat_lt}
use Rattle.sf_format.specs.declared.defect.Defect.TheVariants.{IdsExhausted}
use Rattle.sf_format.specs.Readings.{number}
use Rattle.sf_format.specs.Format.{allowed}
use Rattle.sf_loading.proofs.StreamLaws.{Gives-judged}
use Rattle.sf_loading.proofs.layers.next_id.Goals as goal

pub returns : goal.returns
returns g c = Gives-judged (λ n. n) (number 4) (λ (n : ℕ). allowed (nat_lt 0 n) IdsExhausted n) c.in_ok-id.id c.place-place.result
    c.allowed.result _ _ _ _ c.place-place.ensures c.in_ok-id.ensures c.allowed.ensures
