use Rattle.std.proofs.Common.{◌∙◌, ap}
use Rattle.sf_keeping.specs.Waiting.{with_text, with_answer}
use Rattle.sf_keeping.specs.declared.desk.KeepFault.TheVariants.{Memory}
use Rattle.sf_keeping.proofs.CallLaws.{OnOk-map, IfErr-map, err-passed, err-is}
use Rattle.sf_keeping.proofs.Underways.{BreaksWithin-before}
use Rattle.sf_keeping.proofs.KeepingLaws.{IsTold-of, GoesOnBy-changed, GoesOnBy-stays, GoesOnBy-as, BreaksWithin-changed, BreaksWithin-stays, BreaksWithin-as}
use Rattle.sf_keeping.proofs.keeping.keep_short.Goals as goal

pub returns-in_err-make_room-clause-broken : goal.returns-in_err-make_room-clause-broken
returns-in_err-make_room-clause-broken g c = err-passed c.from_residual.result c.in_err-make_room.field-0.0 _ c.from_residual.ensures.1 (λ request is. BreaksWithin-before _ _ _ _ _ _ c.in_err-make_room.ensures.broken)

pub returns-in-Changed-clause-ok : goal.returns-in-Changed-clause-ok
returns-in-Changed-clause-ok g c = OnOk-map c.keep_answered.result
    (λ next request is. GoesOnBy-changed _ _ _ c.make_room.new.pending _ _ _ request c.args.text.now _ c.in_ok-make_room.ensures.ok is c.in-Changed.ensures.0 c.in-Changed.ensures.1
    (next ∙ ap (with_answer (with_text c.make_room.new.pending c.args.text.now)) (c.as_bytes.ensures ∙ c.accepted.ensures)))
    c.keep_answered.ensures.ok

pub returns-in-Changed-clause-broken : goal.returns-in-Changed-clause-broken
returns-in-Changed-clause-broken g c = err-is c.keep_answered.result Memory _ c.keep_answered.ensures.wanting (λ request is.
    BreaksWithin-changed _ _ _ c.make_room.new.pending _ _ request c.args.text.now _ c.in_ok-make_room.ensures.ok is c.in-Changed.ensures.0 c.in-Changed.ensures.1)

pub returns-in-Grouped-clause-ok : goal.returns-in-Grouped-clause-ok
returns-in-Grouped-clause-ok g c = OnOk-map c.keep_answered-in-Grouped.result
    (λ next request is. GoesOnBy-changed _ _ _ c.make_room.new.pending _ _ _ request c.args.text.now _ c.in_ok-make_room.ensures.ok is c.in-Grouped.ensures.0 c.in-Grouped.ensures.1
    (next ∙ ap (with_answer (with_text c.make_room.new.pending c.args.text.now)) c.as_slice.ensures.value))
    c.keep_answered-in-Grouped.ensures.ok

pub returns-in-Grouped-clause-broken : goal.returns-in-Grouped-clause-broken
returns-in-Grouped-clause-broken g c = err-is c.keep_answered-in-Grouped.result Memory _ c.keep_answered-in-Grouped.ensures.wanting (λ request is.
    BreaksWithin-changed _ _ _ c.make_room.new.pending _ _ request c.args.text.now _ c.in_ok-make_room.ensures.ok is c.in-Grouped.ensures.0 c.in-Grouped.ensures.1)

pub returns-in-Told-clause-ok : goal.returns-in-Told-clause-ok
returns-in-Told-clause-ok g c = OnOk-map c.tell_reply.result
    (λ tells request is. GoesOnBy-as _ _ _ _ c.args.editor.now c.carry_out.new.editor _ c.in-Told.ensures.1
    (GoesOnBy-stays _ _ _ _ c.make_room.new.pending _ _ _ _ c.in_ok-make_room.ensures.ok
    (tells c.args.editor.now request (IsTold-of _ c.carry_out.new.editor request c.args.text.now _ is c.in-Told.ensures.0 c.in-Told.ensures.1))))
    c.tell_reply.ensures.ok

pub returns-in-Told-clause-broken : goal.returns-in-Told-clause-broken
returns-in-Told-clause-broken g c = IfErr-map c.tell_reply.result _ _
    (λ fault tells request is. BreaksWithin-as _ _ _ _ c.args.editor.now c.carry_out.new.editor _ c.in-Told.ensures.1
    (BreaksWithin-stays _ _ _ _ _ c.make_room.new.pending _ _ _ c.in_ok-make_room.ensures.ok
    (tells c.args.editor.now request (IsTold-of _ c.carry_out.new.editor request c.args.text.now _ is c.in-Told.ensures.0 c.in-Told.ensures.1))))
    c.tell_reply.ensures.broken
