use Rattle.std.proofs.Common.{◌≡◌, sym, subst}
use Rattle.std.specs.Option.{IsSomeAnd}
use Rattle.sf_layers.specs.Content.{column_values, layer_at}
use Rattle.sf_edits.proofs.ColumnLaws.{column-dropped, dropping-fits, dropping-there, dropping-within, is-dropping}
use Rattle.sf_edits.proofs.column_edits.drop_column.Goals as goal

pub take_values-requires : goal.take_values-requires
take_values-requires c =
    dropping-within c.args.store.now c.args.layer c.args.name c.in-Ok.at.place c.in-Ok.at.column_place c.in-Ok.at.number
    (is-dropping c.args.store.now c.args.layer c.args.name c.as_str.result.now c.as_str-2.result.now c.in-Ok.at.place c.in-Ok.at.column_place c.in-Ok.at.number c.as_str.ensures c.as_str-2.ensures
    c.in-Ok.ensures.place c.in-Ok.ensures.column_place c.in-Ok.ensures.number c.in-Ok.ensures.passed)

pub take_column-column-requires-clause-there : goal.take_column-column-requires-clause-there
take_column-column-requires-clause-there c =
    dropping-there c.args.store.now c.take_values.new.self c.args.layer c.args.name c.in-Ok.at.place c.in-Ok.at.column_place c.in-Ok.at.number
    (is-dropping c.args.store.now c.args.layer c.args.name c.as_str.result.now c.as_str-2.result.now c.in-Ok.at.place c.in-Ok.at.column_place c.in-Ok.at.number c.as_str.ensures c.as_str-2.ensures
    c.in-Ok.ensures.place c.in-Ok.ensures.column_place c.in-Ok.ensures.number c.in-Ok.ensures.passed)
    c.in-Ok-take_values.ensures.rest

pub take_column-column-requires-clause-fits : goal.take_column-column-requires-clause-fits
take_column-column-requires-clause-fits c =
    dropping-fits c.args.store.now c.take_values.new.self c.args.layer c.args.name c.in-Ok.at.place c.in-Ok.at.column_place c.in-Ok.at.number c.in-Ok.ensures.well_formed
    (is-dropping c.args.store.now c.args.layer c.args.name c.as_str.result.now c.as_str-2.result.now c.in-Ok.at.place c.in-Ok.at.column_place c.in-Ok.at.number c.as_str.ensures c.as_str-2.ensures
    c.in-Ok.ensures.place c.in-Ok.ensures.column_place c.in-Ok.ensures.number c.in-Ok.ensures.passed)
    c.in-Ok-take_values.ensures.rest

pub returns : goal.returns
returns c =
    column-dropped c.args.store.now c.take_values.new.self c.take_column-column.new.self c.args.layer c.args.name c.in-Ok.at.place c.in-Ok.at.column_place c.in-Ok.at.number c.take_column-column.result c.replace.new.self
    c.in-Ok.ensures.well_formed
    (is-dropping c.args.store.now c.args.layer c.args.name c.as_str.result.now c.as_str-2.result.now c.in-Ok.at.place c.in-Ok.at.column_place c.in-Ok.at.number c.as_str.ensures c.as_str-2.ensures
    c.in-Ok.ensures.place c.in-Ok.ensures.column_place c.in-Ok.ensures.number c.in-Ok.ensures.passed)
    (subst (λ values. IsSomeAnd (layer_at c.args.store.now c.in-Ok.at.place) (λ layer. values ≡ column_values c.in-Ok.at.number layer)) (sym c.replace.ensures.put) c.in-Ok-take_values.ensures.taken)
    c.in-Ok-take_values.ensures.rest c.take_column-column.ensures.taken c.take_column-column.ensures.rest
