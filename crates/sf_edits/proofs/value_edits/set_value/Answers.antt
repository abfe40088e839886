use Rattle.std.proofs.Common.{◌∙◌, sym}
use Rattle.sf_edits.proofs.ValueLaws.{is-spotted, set-done, set-fits}
use Rattle.sf_edits.proofs.value_edits.set_value.Goals as goal

pub put_value-requires-clause-fits : goal.put_value-requires-clause-fits
put_value-requires-clause-fits c =
    set-fits c.args.store.now c.args.layer c.args.id c.args.column c.args.value c.in-Ok.at.place c.in-Ok.at.number c.in-Ok.at.column_type
    (is-spotted c.args.store.now c.args.layer c.as_str.result.now c.args.id c.args.column c.as_str-2.result.now c.in-Ok.at.place c.in-Ok.at.number c.in-Ok.at.column_type
    c.as_str.ensures c.as_str-2.ensures c.in-Ok.ensures.place c.in-Ok.ensures.column c.in-Ok.ensures.passed c.in-Ok.ensures.well_formed)
    (sym c.is_of_type.ensures ∙ c.if-not-is_of_type.false)

pub returns-in-Ok-put_value : goal.returns-in-Ok-put_value
returns-in-Ok-put_value c =
    set-done c.args.store.now c.put_value.new.self c.args.layer c.args.id c.args.column c.args.value c.in-Ok-put_value.old c.in-Ok.at.place c.in-Ok.at.number c.in-Ok.at.column_type
    (is-spotted c.args.store.now c.args.layer c.as_str.result.now c.args.id c.args.column c.as_str-2.result.now c.in-Ok.at.place c.in-Ok.at.number c.in-Ok.at.column_type
    c.as_str.ensures c.as_str-2.ensures c.in-Ok.ensures.place c.in-Ok.ensures.column c.in-Ok.ensures.passed c.in-Ok.ensures.well_formed)
    (sym c.is_of_type.ensures ∙ c.if-not-is_of_type.false) c.in-Ok-put_value.ensures.put c.in-Ok-put_value.ensures.old
