use Rattle.std.proofs.Common.{◌∙◌, sym}
use Rattle.sf_format.specs.declared.defect.Defect.TheVariants.{NoColumn}
use Rattle.sf_format.specs.Readings.{number}
use Rattle.sf_format.specs.Format.{next_column_of}
use Rattle.sf_loading.proofs.StreamLaws.{Finds-field, Takes-field}
use Rattle.sf_loading.proofs.TypeLaws.{column-found, column-missing}
use Rattle.sf_loading.proofs.values.value_column.Goals as goal

pub returns-in-Some-clause-gives : goal.returns-in-Some-clause-gives
returns-in-Some-clause-gives g c = λ columns are.
    let n = c.in_ok-number.number in
    let found = column-found c.args.types.now columns c.args.previous n c.in-Some.column_type are (sym c.next_type.ensures ∙ c.in-Some.is) in
    (found.0, Takes-field (number 2) (next_column_of columns c.args.previous) n found.0 _ _ _ _ found.1 c.in_ok-number.ensures, found.2, found.3)

pub returns-in-None-clause-gives : goal.returns-in-None-clause-gives
returns-in-None-clause-gives g c = λ columns are.
    let n = c.in_ok-number.number in
    Finds-field (number 2) (next_column_of columns c.args.previous) n c.place-place.result NoColumn _ _ _ _ c.place-place.ensures
    (column-missing c.args.types.now columns c.args.previous n are (sym c.next_type.ensures ∙ c.in-None.is)) c.in_ok-number.ensures
