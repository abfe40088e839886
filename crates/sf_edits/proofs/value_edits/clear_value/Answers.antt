use Rattle.sf_edits.proofs.ValueLaws.{cleared, is-spotted}
use Rattle.sf_edits.proofs.value_edits.clear_value.Goals as goal

pub returns-in-Ok : goal.returns-in-Ok
returns-in-Ok c =
    cleared c.args.store.now c.take_value-old.new.self c.args.layer c.args.id c.args.column c.take_value-old.result c.in-Ok.at.place c.in-Ok.at.number c.in-Ok.at.column_type
    (is-spotted c.args.store.now c.args.layer c.as_str.result.now c.args.id c.args.column c.as_str-2.result.now c.in-Ok.at.place c.in-Ok.at.number c.in-Ok.at.column_type
    c.as_str.ensures c.as_str-2.ensures c.in-Ok.ensures.place c.in-Ok.ensures.column c.in-Ok.ensures.passed c.in-Ok.ensures.well_formed)
    c.take_value-old.ensures.rest c.take_value-old.ensures.taken
