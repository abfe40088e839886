use Rattle.std.proofs.Common.{◌≡◌, IsSomeAnd}
use Rattle.sf_layers.specs.Content.{place_of}
use Rattle.sf_steps.specs.Steps.{column_in}
use Rattle.sf_edits.proofs.ValueLaws.{is-spotted, never-kept-some, ok-passed, put-back-some, put-fits-some, taken-back-none, unwrapped, unwrapped_on, value-there}
use Rattle.sf_edits.proofs.value_edits.undo_set_value.Goals as goal

pub unwrap-at-requires : goal.unwrap-at-requires
unwrap-at-requires c =
    ok-passed c.value_place.result c.args.store.now c.args.layer c.as_str.result.now c.args.id c.args.column c.as_str-2.result.now c.as_str.ensures c.as_str-2.ensures
    (value-there c.args.store.now c.args.layer c.args.id c.args.column c.args.old c.requires) c.value_place.ensures.refused

pub returns-in_default-clause-taken_back : goal.returns-in_default-clause-taken_back
returns-in_default-clause-taken_back c =
    taken-back-none c.args.store.now c.take_value-value.new.self c.args.layer c.args.id c.args.column c.args.old c.take_value-value.result c.edit_of.result c.unwrap-at.result.place c.unwrap-at.result.number c.unwrap-at.result.column_type
    (is-spotted c.args.store.now c.args.layer c.as_str.result.now c.args.id c.args.column c.as_str-2.result.now c.unwrap-at.result.place c.unwrap-at.result.number c.unwrap-at.result.column_type
    c.as_str.ensures c.as_str-2.ensures
    (unwrapped (λ at. at.place ≡ place_of c.args.store.now c.as_str.result.now) c.value_place.result c.unwrap-at.result c.unwrap-at.ensures c.value_place.ensures.place)
    (unwrapped (λ at. IsSomeAnd (column_in c.args.store.now c.as_str.result.now c.as_str-2.result.now) (λ x. (x.number ≡ at.number) × (x.column_type ≡ at.column_type)))
    c.value_place.result c.unwrap-at.result c.unwrap-at.ensures c.value_place.ensures.column)
    (unwrapped_on c.value_place.result c.unwrap-at.result c.unwrap-at.ensures c.value_place.ensures.passed) c.value_place.ensures.well_formed)
    c.requires c.in_default.is c.take_value-value.ensures.rest c.take_value-value.ensures.taken c.edit_of.ensures

pub put_value-requires-clause-fits : goal.put_value-requires-clause-fits
put_value-requires-clause-fits c =
    put-fits-some c.args.store.now c.args.layer c.args.id c.args.column c.args.old c.in-Some.value c.unwrap-at.result.place c.unwrap-at.result.number c.unwrap-at.result.column_type
    (is-spotted c.args.store.now c.args.layer c.as_str.result.now c.args.id c.args.column c.as_str-2.result.now c.unwrap-at.result.place c.unwrap-at.result.number c.unwrap-at.result.column_type
    c.as_str.ensures c.as_str-2.ensures
    (unwrapped (λ at. at.place ≡ place_of c.args.store.now c.as_str.result.now) c.value_place.result c.unwrap-at.result c.unwrap-at.ensures c.value_place.ensures.place)
    (unwrapped (λ at. IsSomeAnd (column_in c.args.store.now c.as_str.result.now c.as_str-2.result.now) (λ x. (x.number ≡ at.number) × (x.column_type ≡ at.column_type)))
    c.value_place.result c.unwrap-at.result c.unwrap-at.ensures c.value_place.ensures.column)
    (unwrapped_on c.value_place.result c.unwrap-at.result c.unwrap-at.ensures c.value_place.ensures.passed) c.value_place.ensures.well_formed)
    c.requires c.in-Some.is

pub returns-in-Ok-clause-taken_back : goal.returns-in-Ok-clause-taken_back
returns-in-Ok-clause-taken_back c =
    put-back-some c.args.store.now c.put_value.new.self c.args.layer c.args.id c.args.column c.args.old c.in-Some.value c.in-Ok.value c.edit_of-in-Ok.result c.unwrap-at.result.place c.unwrap-at.result.number c.unwrap-at.result.column_type
    (is-spotted c.args.store.now c.args.layer c.as_str.result.now c.args.id c.args.column c.as_str-2.result.now c.unwrap-at.result.place c.unwrap-at.result.number c.unwrap-at.result.column_type
    c.as_str.ensures c.as_str-2.ensures
    (unwrapped (λ at. at.place ≡ place_of c.args.store.now c.as_str.result.now) c.value_place.result c.unwrap-at.result c.unwrap-at.ensures c.value_place.ensures.place)
    (unwrapped (λ at. IsSomeAnd (column_in c.args.store.now c.as_str.result.now c.as_str-2.result.now) (λ x. (x.number ≡ at.number) × (x.column_type ≡ at.column_type)))
    c.value_place.result c.unwrap-at.result c.unwrap-at.ensures c.value_place.ensures.column)
    (unwrapped_on c.value_place.result c.unwrap-at.result c.unwrap-at.ensures c.value_place.ensures.passed) c.value_place.ensures.well_formed)
    c.requires c.in-Some.is c.in-Ok.ensures.put c.in-Ok.ensures.old c.edit_of-in-Ok.ensures

pub returns-in-Err-clause-always : goal.returns-in-Err-clause-always
returns-in-Err-clause-always c frees =
    absurd (never-kept-some c.args.store.now c.args.layer c.args.id c.args.column c.args.old c.in-Some.value c.unwrap-at.result.place c.unwrap-at.result.number c.unwrap-at.result.column_type
    (is-spotted c.args.store.now c.args.layer c.as_str.result.now c.args.id c.args.column c.as_str-2.result.now c.unwrap-at.result.place c.unwrap-at.result.number c.unwrap-at.result.column_type
    c.as_str.ensures c.as_str-2.ensures
    (unwrapped (λ at. at.place ≡ place_of c.args.store.now c.as_str.result.now) c.value_place.result c.unwrap-at.result c.unwrap-at.ensures c.value_place.ensures.place)
    (unwrapped (λ at. IsSomeAnd (column_in c.args.store.now c.as_str.result.now c.as_str-2.result.now) (λ x. (x.number ≡ at.number) × (x.column_type ≡ at.column_type)))
    c.value_place.result c.unwrap-at.result c.unwrap-at.ensures c.value_place.ensures.column)
    (unwrapped_on c.value_place.result c.unwrap-at.result c.unwrap-at.ensures c.value_place.ensures.passed) c.value_place.ensures.well_formed)
    c.in-Some.is frees c.in-Err.ensures.none)
