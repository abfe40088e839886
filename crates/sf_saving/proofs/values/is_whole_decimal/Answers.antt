use Rattle.std.proofs.Common.{◌∙◌, Bool, ap}
use Rattle.sf_format.specs.Canonical.{is_decimal_column, typed_bytes}
use Rattle.sf_saving.proofs.values.is_whole_decimal.Goals as goal

pub returns-in-Int : goal.returns-in-Int
returns-in-Int c =
    let entry = c.args.entry.now in
    ap (λ (is : Bool). typed_bytes is entry.1) (c.is_decimal_column.ensures ∙ ap is_decimal_column c.column_numbered.ensures)
