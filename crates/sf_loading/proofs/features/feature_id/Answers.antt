use Rattle.std.proofs.Common.{ap, sym}
use Rattle.sf_format.specs.declared.defect.Defect.TheVariants.{IdsExhausted}
use Rattle.sf_format.specs.Readings.{number}
use Rattle.sf_format.specs.Format.{allowed, next_of}
use Rattle.sf_loading.proofs.StreamLaws.{Gives-ruled}
use Rattle.sf_loading.proofs.features.feature_id.Goals as goal

pub returns : goal.returns
returns g c =
    let n = c.in_ok-id.id in
    Gives-ruled (λ m. m) (number 4) (next_of c.args.next_id c.args.previous) n (allowed c.is_next.result IdsExhausted n) c.place-place.result
    c.allowed.result _ _ _ _ c.place-place.ensures c.in_ok-id.ensures (ap (λ t. allowed t IdsExhausted n) (sym c.is_next.ensures)) c.allowed.ensures
