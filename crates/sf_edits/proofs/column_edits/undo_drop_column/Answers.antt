use Rattle.std.proofs.Common.{◌≡◌, ◌∙◌, ap, refl}
use Rattle.sf_layers.specs.Content.{has_layer}
use Rattle.sf_steps.specs.declared.edit.Edit.TheVariants.{DropColumn}
use Rattle.sf_steps.specs.declared.inverse.Inverse.TheVariants.{PutColumn}
use Rattle.sf_edits.proofs.Carrying.{RevertsOrKeeps-described, RevertsOrKeeps-kept}
use Rattle.sf_edits.proofs.ColumnLaws.{ColumnOut-Fits, bared-bare, bared-standing, bared-there, emptied, emptied-fits, filled, filled-fits, out-fits, out-free, out-there, out-unused, out-within, standing-is}
use Rattle.sf_edits.proofs.LayerLaws.{found-place}
use Rattle.sf_edits.proofs.column_edits.undo_drop_column.Goals as goal

pub unwrap-place-requires : goal.unwrap-place-requires
unwrap-place-requires c =
    c.place.ensures.found ∙ ap (has_layer c.args.store.now) c.as_str.ensures
    ∙ out-there c.args.store.now c.args.layer c.args.column_place c.args.column c.args.values
    (ColumnOut-Fits c.args.store.now c.args.layer c.args.name c.args.column_place c.args.column c.args.values c.requires)

pub put_column-requires-clause-within : goal.put_column-requires-clause-within
put_column-requires-clause-within c =
    out-within c.args.store.now c.args.layer c.unwrap-place.result c.args.column_place c.args.column c.args.values
    (ColumnOut-Fits c.args.store.now c.args.layer c.args.name c.args.column_place c.args.column c.args.values c.requires)
    (found-place c.args.store.now c.args.layer c.as_str.result.now c.unwrap-place.result c.place.result c.as_str.ensures c.unwrap-place.ensures c.place.ensures.there)

pub put_column-requires-clause-free : goal.put_column-requires-clause-free
put_column-requires-clause-free c =
    out-free c.args.store.now c.args.layer c.unwrap-place.result c.args.column_place c.args.column c.args.values
    (ColumnOut-Fits c.args.store.now c.args.layer c.args.name c.args.column_place c.args.column c.args.values c.requires)
    (found-place c.args.store.now c.args.layer c.as_str.result.now c.unwrap-place.result c.place.result c.as_str.ensures c.unwrap-place.ensures c.place.ensures.there)

pub put_column-requires-clause-unused : goal.put_column-requires-clause-unused
put_column-requires-clause-unused c =
    out-unused c.args.store.now c.args.layer c.unwrap-place.result c.args.column_place c.args.column c.args.values
    (ColumnOut-Fits c.args.store.now c.args.layer c.args.name c.args.column_place c.args.column c.args.values c.requires)
    (found-place c.args.store.now c.args.layer c.as_str.result.now c.unwrap-place.result c.place.result c.as_str.ensures c.unwrap-place.ensures c.place.ensures.there)

pub put_column-requires-clause-fits : goal.put_column-requires-clause-fits
put_column-requires-clause-fits c =
    out-fits c.args.store.now c.args.layer c.unwrap-place.result c.args.column_place c.args.column c.args.values
    (ColumnOut-Fits c.args.store.now c.args.layer c.args.name c.args.column_place c.args.column c.args.values c.requires)
    (found-place c.args.store.now c.args.layer c.as_str.result.now c.unwrap-place.result c.place.result c.as_str.ensures c.unwrap-place.ensures c.place.ensures.there) c.place.ensures.well_formed

pub put_values-requires-clause-there : goal.put_values-requires-clause-there
put_values-requires-clause-there c =
    bared-there c.args.store.now c.args.layer c.unwrap-place.result c.args.column_place c.args.column c.args.values
    (ColumnOut-Fits c.args.store.now c.args.layer c.args.name c.args.column_place c.args.column c.args.values c.requires)
    (found-place c.args.store.now c.args.layer c.as_str.result.now c.unwrap-place.result c.place.result c.as_str.ensures c.unwrap-place.ensures c.place.ensures.there)
    c.put_column.new.self c.in_default.ensures.put c.replace-taken.result c.replace-taken.ensures.given

pub put_values-requires-clause-bare : goal.put_values-requires-clause-bare
put_values-requires-clause-bare c =
    bared-bare c.args.store.now c.args.layer c.unwrap-place.result c.args.column_place c.args.column c.args.values
    (ColumnOut-Fits c.args.store.now c.args.layer c.args.name c.args.column_place c.args.column c.args.values c.requires)
    (found-place c.args.store.now c.args.layer c.as_str.result.now c.unwrap-place.result c.place.result c.as_str.ensures c.unwrap-place.ensures c.place.ensures.there)
    c.put_column.new.self c.in_default.ensures.put

pub put_values-requires-clause-fits : goal.put_values-requires-clause-fits
put_values-requires-clause-fits c =
    filled-fits c.args.store.now c.args.layer c.unwrap-place.result c.args.column_place c.args.column c.args.values
    (ColumnOut-Fits c.args.store.now c.args.layer c.args.name c.args.column_place c.args.column c.args.values c.requires)
    (found-place c.args.store.now c.args.layer c.as_str.result.now c.unwrap-place.result c.place.result c.as_str.ensures c.unwrap-place.ensures c.place.ensures.there)
    c.put_column.new.self c.in_default.ensures.put c.replace-taken.result c.replace-taken.ensures.given c.requires.well_formed

pub take_column-column-requires-clause-there : goal.take_column-column-requires-clause-there
take_column-column-requires-clause-there c =
    bared-standing c.args.store.now c.args.layer c.unwrap-place.result c.args.column_place c.args.column c.args.values
    (ColumnOut-Fits c.args.store.now c.args.layer c.args.name c.args.column_place c.args.column c.args.values c.requires)
    (found-place c.args.store.now c.args.layer c.as_str.result.now c.unwrap-place.result c.place.result c.as_str.ensures c.unwrap-place.ensures c.place.ensures.there)
    c.put_values.new.self (c.in-Err-put_values.ensures.unchanged ∙ c.in_default.ensures.put)

pub take_column-column-requires-clause-fits : goal.take_column-column-requires-clause-fits
take_column-column-requires-clause-fits c =
    emptied-fits c.args.store.now c.args.layer c.unwrap-place.result c.args.column_place c.args.column c.args.values
    (ColumnOut-Fits c.args.store.now c.args.layer c.args.name c.args.column_place c.args.column c.args.values c.requires)
    (found-place c.args.store.now c.args.layer c.as_str.result.now c.unwrap-place.result c.place.result c.as_str.ensures c.unwrap-place.ensures c.place.ensures.there)
    c.put_values.new.self (c.in-Err-put_values.ensures.unchanged ∙ c.in_default.ensures.put) c.place.ensures.well_formed

pub returns-in-Ok : goal.returns-in-Ok
returns-in-Ok c =
    RevertsOrKeeps-described c.args.store.now c.put_values.new.self (PutColumn c.args.layer c.args.name c.args.column_place c.args.column c.args.values) (DropColumn c.args.layer c.args.name) c.requires
    (filled c.args.store.now c.args.layer c.unwrap-place.result c.args.column_place c.args.column c.args.values
    (ColumnOut-Fits c.args.store.now c.args.layer c.args.name c.args.column_place c.args.column c.args.values c.requires)
    (found-place c.args.store.now c.args.layer c.as_str.result.now c.unwrap-place.result c.place.result c.as_str.ensures c.unwrap-place.ensures c.place.ensures.there)
    c.put_column.new.self c.in_default.ensures.put c.put_values.new.self c.replace-taken.result c.replace-taken.ensures.given c.in-Ok.ensures.put)
    refl

pub returns-in-Err-put_values : goal.returns-in-Err-put_values
returns-in-Err-put_values c =
    let same : c.take_column-column.result ≡ c.args.column =
    standing-is c.args.store.now c.args.layer c.unwrap-place.result c.args.column_place c.args.column c.args.values
    (ColumnOut-Fits c.args.store.now c.args.layer c.args.name c.args.column_place c.args.column c.args.values c.requires)
    (found-place c.args.store.now c.args.layer c.as_str.result.now c.unwrap-place.result c.place.result c.as_str.ensures c.unwrap-place.ensures c.place.ensures.there)
    c.put_values.new.self (c.in-Err-put_values.ensures.unchanged ∙ c.in_default.ensures.put) c.take_column-column.result c.take_column-column.ensures.taken in
    RevertsOrKeeps-kept c.args.store.now c.take_column-column.new.self (PutColumn c.args.layer c.args.name c.args.column_place c.args.column c.args.values)
    (PutColumn c.args.layer c.args.name c.args.column_place c.take_column-column.result c.replace.new.self)
    (ap (λ column. PutColumn c.args.layer c.args.name c.args.column_place column c.replace.new.self) same
    ∙ ap (PutColumn c.args.layer c.args.name c.args.column_place c.args.column) (c.replace.ensures.put ∙ c.in-Err-put_values.ensures.given_back ∙ c.replace-taken.ensures.given))
    (emptied c.args.store.now c.args.layer c.unwrap-place.result c.args.column_place c.args.column c.args.values
    (ColumnOut-Fits c.args.store.now c.args.layer c.args.name c.args.column_place c.args.column c.args.values c.requires)
    (found-place c.args.store.now c.args.layer c.as_str.result.now c.unwrap-place.result c.place.result c.as_str.ensures c.unwrap-place.ensures c.place.ensures.there)
    c.put_values.new.self (c.in-Err-put_values.ensures.unchanged ∙ c.in_default.ensures.put) c.take_column-column.new.self c.take_column-column.ensures.rest)
