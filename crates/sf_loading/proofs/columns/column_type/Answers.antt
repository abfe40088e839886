use Rattle.std.proofs.Common.{ℕ, ap, sym}
use Rattle.sf_format.specs.declared.defect.Defect.TheVariants.{WrongValue}
use Rattle.sf_format.specs.Readings.{number}
use Rattle.sf_format.specs.Format.{present, type_of_byte}
use Rattle.sf_loading.proofs.StreamLaws.{Gives-ruled}
use Rattle.sf_loading.proofs.columns.column_type.Goals as goal

pub returns : goal.returns
returns g c = Gives-ruled (λ t. t) (number 1) (λ (byte : ℕ). present (type_of_byte byte) WrongValue) c.in_ok-byte.byte (present c.type_of_byte.result WrongValue) c.place-place.result
    c.present.result _ _ _ _ c.place-place.ensures c.in_ok-byte.ensures (ap (λ t. present t WrongValue) (sym c.type_of_byte.ensures)) c.present.ensures
