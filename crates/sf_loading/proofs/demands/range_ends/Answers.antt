use Rattle.std.proofs.Common.{ℕ, ap, sym}
use Rattle.sf_format.specs.declared.defect.Defect.TheVariants.{BadFile}
use Rattle.sf_format.specs.Readings.{number}
use Rattle.sf_format.specs.Format.{ends_of_byte, present}
use Rattle.sf_loading.proofs.StreamLaws.{Gives-ruled}
use Rattle.sf_loading.proofs.demands.range_ends.Goals as goal

pub returns : goal.returns
returns g c = Gives-ruled (λ ends. ends) (number 1) (λ (byte : ℕ). present (ends_of_byte byte) BadFile) c.in_ok-byte.byte (present c.ends_of_byte.result BadFile) c.place-place.result
    c.present.result _ _ _ _ c.place-place.ensures c.in_ok-byte.ensures (ap (λ k. present k BadFile) (sym c.ends_of_byte.ensures)) c.present.ensures
