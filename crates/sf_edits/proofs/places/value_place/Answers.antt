use Rattle.std.proofs.Common.{◌≡◌, ◌∙◌, ap, refl, sym}
use Rattle.std.specs.Option.{option_copied}
use Rattle.sf_steps.specs.Steps.{column_in}
use Rattle.sf_edits.proofs.FeatureLaws.{to_some}
use Rattle.sf_edits.proofs.ValueLaws.{column-found, column-missed, column-there, some_of_copied, value-passed}
use Rattle.sf_edits.proofs.places.value_place.Goals as goal

pub returns-in_default-clause-refused : goal.returns-in_default-clause-refused
returns-in_default-clause-refused c =
    column-missed c.args.store.now c.args.name.now c.args.id c.args.column.now c.in_ok-place.place c.layer_there-layer.result.now c.in_ok-place.ensures.place c.layer_there-layer.ensures c.in_ok-place.ensures.passed
    c.in_default.ensures.found

pub unwrap-column-requires : goal.unwrap-column-requires
unwrap-column-requires c =
    let known = column-found c.layer_there-layer.result.now c.args.column.now c.in-Some.column_place c.in-Some.ensures.there c.in-Some.ensures.found in
    some_of_copied (λ x. x.now) c.column_at.result known.0 (c.column_at.ensures ∙ known.1.1)

pub returns-clause-column : goal.returns-clause-column
returns-clause-column c =
    to_some (λ x. (x.number ≡ c.unwrap-column.result.now.number) × (x.column_type ≡ c.unwrap-column.result.now.column_type)) (column_in c.args.store.now c.args.name.now c.args.column.now) c.unwrap-column.result.now
    (column-there c.args.store.now c.args.name.now c.args.column.now c.in_ok-place.place c.in-Some.column_place c.layer_there-layer.result.now c.unwrap-column.result.now c.in_ok-place.ensures.place c.layer_there-layer.ensures
    c.in-Some.ensures.there c.in-Some.ensures.found (sym c.column_at.ensures ∙ ap option_copied c.unwrap-column.ensures))
    (refl, refl)

pub returns-clause-passed : goal.returns-clause-passed
returns-clause-passed c =
    value-passed c.args.store.now c.args.name.now c.args.id c.args.column.now c.in_ok-place.place c.layer_there-layer.result.now c.in_ok-place.ensures.place c.layer_there-layer.ensures c.in_ok-place.ensures.passed c.in-Some.ensures.found
