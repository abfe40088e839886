use Rattle.std.proofs.Common.{◌≡◌, ◌∙◌, ◌<◌, sym, ap, None, Some, refl}
use Rattle.sf_layers.specs.Content.{column_named}
use Rattle.sf_layers.specs.WellFormed.{column_end}
use Rattle.sf_steps.specs.declared.edit.Edit.TheVariants.{AddColumn}
use Rattle.sf_steps.specs.Steps.{checks, first_refusal}
use Rattle.sf_edits.proofs.Carrying.{Carries-memory, Carries-refused}
use Rattle.sf_edits.proofs.ColumnLaws.{adding-fits, column-added, holds-at, is-adding}
use Rattle.sf_edits.proofs.column_edits.add_column.Goals as goal

pub push_column-requires-clause-room : goal.push_column-requires-clause-room
push_column-requires-clause-room c =
    let a = is-adding c.args.store.now c.args.layer c.args.name c.as_str.result.now c.as_str-2.result.now c.args.column_type c.in-Ok.place c.as_str.ensures c.as_str-2.ensures c.in-Ok.ensures.place c.in-Ok.ensures.passed in
    holds-at c.args.store.now c.args.layer c.in-Ok.place a.layer (λ layer. layer.next_column < column_end) a.at a.found a.room

pub push_column-requires-clause-free : goal.push_column-requires-clause-free
push_column-requires-clause-free c =
    let a = is-adding c.args.store.now c.args.layer c.args.name c.as_str.result.now c.as_str-2.result.now c.args.column_type c.in-Ok.place c.as_str.ensures c.as_str-2.ensures c.in-Ok.ensures.place c.in-Ok.ensures.passed in
    holds-at c.args.store.now c.args.layer c.in-Ok.place a.layer (λ layer. column_named layer c.args.name ≡ None) a.at a.found a.free

pub push_column-requires-clause-fits : goal.push_column-requires-clause-fits
push_column-requires-clause-fits c =
    adding-fits c.args.store.now c.args.layer c.args.name c.args.column_type c.in-Ok.place c.in-Ok.ensures.well_formed
    (is-adding c.args.store.now c.args.layer c.args.name c.as_str.result.now c.as_str-2.result.now c.args.column_type c.in-Ok.place c.as_str.ensures c.as_str-2.ensures c.in-Ok.ensures.place c.in-Ok.ensures.passed)

pub returns-in-Ok-push_column : goal.returns-in-Ok-push_column
returns-in-Ok-push_column c =
    column-added c.args.store.now c.push_column.new.self c.args.layer c.args.name c.args.column_type c.in-Ok.place c.in-Ok.ensures.well_formed
    (is-adding c.args.store.now c.args.layer c.args.name c.as_str.result.now c.as_str-2.result.now c.args.column_type c.in-Ok.place c.as_str.ensures c.as_str-2.ensures c.in-Ok.ensures.place c.in-Ok.ensures.passed)
    c.in-Ok-push_column.ensures.pushed

pub returns-in-Err : goal.returns-in-Err
returns-in-Err c =
    let edit = AddColumn c.args.layer c.args.name c.args.column_type in
    let failed : first_refusal (checks c.args.store.now edit) ≡ Some c.in-Err.refusal =
    ap (λ n. first_refusal (checks c.args.store.now (AddColumn n c.args.name c.args.column_type))) (sym c.as_str.ensures)
    ∙ ap (λ n. first_refusal (checks c.args.store.now (AddColumn c.as_str.result.now n c.args.column_type))) (sym c.as_str-2.ensures) ∙ c.in-Err.ensures.refused c.args.column_type in
    Carries-refused c.args.store.now c.args.store.now edit edit c.in-Err.refusal failed refl refl

pub returns-in-Err-push_column : goal.returns-in-Err-push_column
returns-in-Err-push_column c =
    let a = is-adding c.args.store.now c.args.layer c.args.name c.as_str.result.now c.as_str-2.result.now c.args.column_type c.in-Ok.place c.as_str.ensures c.as_str-2.ensures c.in-Ok.ensures.place c.in-Ok.ensures.passed in
    Carries-memory c.args.store.now c.push_column.new.self (AddColumn c.args.layer c.args.name c.args.column_type) (AddColumn c.args.layer c.in-Err-push_column.name c.args.column_type) a.passed
    (ap (λ n. AddColumn c.args.layer n c.args.column_type) c.in-Err-push_column.ensures.given_back) c.in-Err-push_column.ensures.unchanged
