use Rattle.std.proofs.Common.{◌∙◌, sym, ap, is_some}
use Rattle.std.specs.Prelude.{option_copied}
use Rattle.sf_edits.proofs.ColumnLaws.{column-seen, copied-some, entry-there, layer-seen, spot-number, spot-passed, spot-place, spot-refused}
use Rattle.sf_edits.proofs.column_edits.column_spot.Goals as goal

pub layer_there-content-requires : goal.layer_there-content-requires
layer_there-content-requires c = entry-there c.args.store.now c.args.layer.now c.in-Some.place (sym c.place.ensures.found ∙ ap is_some c.in-Some.is) c.in-Some.ensures.there

pub unwrap-requires : goal.unwrap-requires
unwrap-requires c =
    let there = column-seen c.layer_there-content.result.now c.args.name.now c.in-Some-column_place.column_place c.in-Some-column_place.ensures.there
    (sym c.column_place.ensures.found ∙ ap is_some c.in-Some-column_place.is) in
    copied-some c.column_at.result there.0 (c.column_at.ensures ∙ there.1.1)

pub returns-in_default-column_place-clause-refused : goal.returns-in_default-column_place-clause-refused
returns-in_default-column_place-clause-refused c =
    spot-refused c.args.store.now c.args.layer.now c.args.name.now c.layer_there-content.result.now
    (layer-seen c.args.store.now c.args.layer.now c.in-Some.place c.layer_there-content.result.now c.in-Some.ensures.there c.layer_there-content.ensures)
    (sym c.column_place.ensures.found ∙ ap is_some c.in_default-column_place.is)

pub returns-clause-column_place : goal.returns-clause-column_place
returns-clause-column_place c =
    spot-place c.args.store.now c.args.layer.now c.args.name.now c.layer_there-content.result.now c.in-Some-column_place.column_place
    (layer-seen c.args.store.now c.args.layer.now c.in-Some.place c.layer_there-content.result.now c.in-Some.ensures.there c.layer_there-content.ensures) c.in-Some-column_place.ensures.there

pub returns-clause-number : goal.returns-clause-number
returns-clause-number c =
    spot-number c.args.store.now c.args.layer.now c.args.name.now c.layer_there-content.result.now c.in-Some-column_place.column_place c.unwrap.result.now
    (layer-seen c.args.store.now c.args.layer.now c.in-Some.place c.layer_there-content.result.now c.in-Some.ensures.there c.layer_there-content.ensures)
    (sym c.column_place.ensures.found ∙ ap is_some c.in-Some-column_place.is) c.in-Some-column_place.ensures.there (sym c.column_at.ensures ∙ ap option_copied c.unwrap.ensures)

pub returns-clause-passed : goal.returns-clause-passed
returns-clause-passed c =
    spot-passed c.args.store.now c.args.layer.now c.args.name.now c.layer_there-content.result.now
    (layer-seen c.args.store.now c.args.layer.now c.in-Some.place c.layer_there-content.result.now c.in-Some.ensures.there c.layer_there-content.ensures)
    (sym c.column_place.ensures.found ∙ ap is_some c.in-Some-column_place.is)
