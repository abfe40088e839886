use Rattle.std.proofs.Common.{◌∙◌, ◌<◌, ◌≤◌, sym, ap, subst, is_some}
use Rattle.sf_edits.proofs.ColumnLaws.{adding-exhausted, adding-exists, adding-passed, entry-there, layer-seen}
use Rattle.sf_edits.proofs.column_edits.place_for_column.Goals as goal

pub layer_there-content-requires : goal.layer_there-content-requires
layer_there-content-requires c = entry-there c.args.store.now c.args.layer.now c.in-Some.place (sym c.place.ensures.found ∙ ap is_some c.in-Some.is) c.in-Some.ensures.there

pub returns-then-is_some-clause-refused : goal.returns-then-is_some-clause-refused
returns-then-is_some-clause-refused c column_type =
    adding-exists c.args.store.now c.args.layer.now c.args.name.now column_type c.layer_there-content.result.now
    (layer-seen c.args.store.now c.args.layer.now c.in-Some.place c.layer_there-content.result.now c.in-Some.ensures.there c.layer_there-content.ensures)
    (sym c.is_name.ensures ∙ c.if-not-is_name.false) (sym c.column_place.ensures.found ∙ sym c.is_some.ensures ∙ c.if-is_some.true)

pub returns-then-next_column-ge-COLUMN_END-clause-refused : goal.returns-then-next_column-ge-COLUMN_END-clause-refused
returns-then-next_column-ge-COLUMN_END-clause-refused c column_type =
    adding-exhausted c.args.store.now c.args.layer.now c.args.name.now column_type c.layer_there-content.result.now
    (layer-seen c.args.store.now c.args.layer.now c.in-Some.place c.layer_there-content.result.now c.in-Some.ensures.there c.layer_there-content.ensures)
    (sym c.is_name.ensures ∙ c.if-not-is_name.false) (sym c.column_place.ensures.found ∙ sym c.is_some.ensures ∙ c.if-is_some.false)
    (subst (λ n. 65535 ≤ n) c.next_column.ensures c.if-next_column-ge-COLUMN_END.true)

pub returns-else-next_column-ge-COLUMN_END-clause-passed : goal.returns-else-next_column-ge-COLUMN_END-clause-passed
returns-else-next_column-ge-COLUMN_END-clause-passed c column_type =
    adding-passed c.args.store.now c.args.layer.now c.args.name.now column_type c.layer_there-content.result.now
    (layer-seen c.args.store.now c.args.layer.now c.in-Some.place c.layer_there-content.result.now c.in-Some.ensures.there c.layer_there-content.ensures)
    (sym c.is_name.ensures ∙ c.if-not-is_name.false) (sym c.column_place.ensures.found ∙ sym c.is_some.ensures ∙ c.if-is_some.false)
    (subst (λ n. n < 65535) c.next_column.ensures c.if-next_column-ge-COLUMN_END.false)
