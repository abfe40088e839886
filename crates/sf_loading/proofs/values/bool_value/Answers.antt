use Rattle.std.proofs.Common.{◌≡◌, ◌∙◌, ℕ, ap, sym}
use Rattle.sf_features.specs.declared.column_type.ColumnType.TheVariants as types
use Rattle.sf_format.specs.declared.defect.Defect.TheVariants.{WrongValue}
use Rattle.sf_format.specs.Readings.{number}
use Rattle.sf_format.specs.Format.{bool_of_byte, present}
use Rattle.sf_format.proofs.Values.{truth-typed}
use Rattle.sf_loading.proofs.StreamLaws.{Gives-ruled}
use Rattle.sf_loading.proofs.TypeLaws.{typed-present}
use Rattle.sf_loading.proofs.values.bool_value.Goals as goal

pub returns-clause-gives : goal.returns-clause-gives
returns-clause-gives g c = Gives-ruled (λ v. v) (number 1) (λ (parts : ℕ). present (bool_of_byte parts) WrongValue) (c.in_ok-byte.byte) (present c.bool_of_byte.result WrongValue) c.place-place.result
    c.present.result _ _ _ _ c.place-place.ensures c.in_ok-byte.ensures (ap (λ k. present k WrongValue) (sym c.bool_of_byte.ensures)) c.present.ensures

pub returns-clause-typed : goal.returns-clause-typed
returns-clause-typed g c = typed-present types.Bool c.bool_of_byte.result c.place-place.result c.present.result (λ v is. truth-typed (c.in_ok-byte.byte) v (sym c.bool_of_byte.ensures ∙ is)) c.present.ensures
