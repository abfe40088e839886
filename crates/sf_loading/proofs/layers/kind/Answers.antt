use Rattle.std.proofs.Common.{ℕ, ap, sym}
use Rattle.sf_format.specs.declared.defect.Defect.TheVariants.{WrongKind}
use Rattle.sf_format.specs.Readings.{number}
use Rattle.sf_format.specs.Format.{kind_of_byte, present}
use Rattle.sf_loading.proofs.StreamLaws.{Gives-ruled}
use Rattle.sf_loading.proofs.layers.kind.Goals as goal

pub returns : goal.returns
returns g c = Gives-ruled (λ k. k) (number 1) (λ (byte : ℕ). present (kind_of_byte byte) WrongKind) c.in_ok-byte.byte (present c.kind_of_byte.result WrongKind) c.place-place.result
    c.present.result _ _ _ _ c.place-place.ensures c.in_ok-byte.ensures (ap (λ k. present k WrongKind) (sym c.kind_of_byte.ensures)) c.present.ensures
