use Rattle.std.proofs.Common.{ap, sym}
use Rattle.std.specs.Prelude.{◌&&◌, nat_le}
use Rattle.sf_format.specs.declared.defect.Defect.TheVariants.{BadName}
use Rattle.sf_format.specs.Readings.{number}
use Rattle.sf_format.specs.Format.{allowed}
use Rattle.sf_loading.proofs.StreamLaws.{Gives-ruled}
use Rattle.sf_loading.proofs.texts.name_size.Goals as goal

pub returns : goal.returns
returns g c = Gives-ruled (λ n. n) (number 1) (λ size. allowed (nat_le 1 size && nat_le size 32) BadName size) c.in_ok-size.size (allowed c.is_name_size.result BadName c.in_ok-size.size)
    c.place-place.result c.allowed.result _ _ _ _ c.place-place.ensures c.in_ok-size.ensures (ap (λ t. allowed t BadName c.in_ok-size.size) (sym c.is_name_size.ensures)) c.allowed.ensures
