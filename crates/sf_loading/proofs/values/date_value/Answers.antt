use Rattle.std.proofs.Common.{◌≡◌, ◌∙◌, ℕ, ap, sym}
use Rattle.sf_features.specs.declared.column_type.ColumnType.TheVariants as types
use Rattle.sf_format.specs.declared.defect.Defect.TheVariants.{WrongValue}
use Rattle.sf_format.specs.Readings.{number}
use Rattle.sf_format.specs.Format.{day_in, date_parts, present}
use Rattle.sf_format.proofs.Values.{day_in-typed}
use Rattle.sf_loading.proofs.StreamLaws.{Gives-ruled}
use Rattle.sf_loading.proofs.TypeLaws.{typed-present}
use Rattle.sf_loading.proofs.values.date_value.Goals as goal
use Rattle.sf_dates.specs.declared.day.Day.{Day}

pub returns-clause-gives : goal.returns-clause-gives
returns-clause-gives g c = Gives-ruled (λ v. v) date_parts (λ (parts : Day). present (day_in parts) WrongValue) c.in_ok-parts.parts (present c.day_in.result WrongValue) c.place-place.result
    c.present.result _ _ _ _ c.place-place.ensures c.in_ok-parts.ensures (ap (λ k. present k WrongValue) (sym c.day_in.ensures)) c.present.ensures

pub returns-clause-typed : goal.returns-clause-typed
returns-clause-typed g c = typed-present types.Date c.day_in.result c.place-place.result c.present.result (λ v is. day_in-typed c.in_ok-parts.parts v (sym c.day_in.ensures ∙ is)) c.present.ensures
