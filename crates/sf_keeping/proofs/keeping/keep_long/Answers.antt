use Rattle.std.proofs.Common.{◌≡◌, ◌∙◌, sym, subst}
use Rattle.sf_console.specs.Readings.{text_reading}
use Rattle.sf_console.specs.Session.{IsAnswered}
use Rattle.sf_keeping.specs.Waiting.{nothing_waits}
use Rattle.sf_keeping.proofs.CallLaws.{OnOk-both, OnOk-map, IfErr-map, err-passed}
use Rattle.sf_keeping.proofs.Underways.{BreaksWithin-before, Breaks-commit, Stays-commit}
use Rattle.sf_keeping.proofs.KeepingLaws.{IsTold-of, IsTold-wanting, GoesOnBy-as, GoesOnBy-at_once, GoesOnBy-stays, BreaksWithin-as, BreaksWithin-at_once, BreaksWithin-stays, nothing-kept}
use Rattle.sf_keeping.proofs.keeping.keep_long.Goals as goal

pub returns-in_err-commit-clause-broken : goal.returns-in_err-commit-clause-broken
returns-in_err-commit-clause-broken g c = err-passed c.from_residual.result c.in_err-commit.field-0.0 _ c.from_residual.ensures.1 (λ request is grouped. BreaksWithin-before _ _ _ _ _ _ (Breaks-commit _ _ _ _ c.in_err-commit.ensures.broken))

pub returns-in_default-clause-ok : goal.returns-in_default-clause-ok
returns-in_default-clause-ok g c = OnOk-map c.tell_reply.result
    (λ tells request is grouped. GoesOnBy-stays _ _ _ _ c.commit.new.self _ _ _ _ (Stays-commit _ _ _ _ c.in_ok-commit.ensures.ok c.in_ok-commit.ensures.emptied)
    (tells c.args.editor.now request (IsTold-wanting c.args.editor.now request grouped)))
    c.tell_reply.ensures.ok

pub returns-in_default-clause-broken : goal.returns-in_default-clause-broken
returns-in_default-clause-broken g c = IfErr-map c.tell_reply.result _ _
    (λ fault tells request is grouped. BreaksWithin-stays _ _ _ _ _ c.commit.new.self _ _ _ (Stays-commit _ _ _ _ c.in_ok-commit.ensures.ok c.in_ok-commit.ensures.emptied)
    (tells c.args.editor.now request (IsTold-wanting c.args.editor.now request grouped)))
    c.tell_reply.ensures.broken

pub returns-in-Changed-clause-ok : goal.returns-in-Changed-clause-ok
returns-in-Changed-clause-ok g c =
    let empty : c.commit.new.self ≡ nothing_waits c.commit.new.self.sum = nothing-kept c.args.pending.now c.commit.new.self c.in_ok-commit.ensures.emptied in
    let stays = Stays-commit _ _ c.args.pending.now c.commit.new.self c.in_ok-commit.ensures.ok c.in_ok-commit.ensures.emptied in
    let told = subst (λ answer. IsAnswered c.args.editor.now (text_reading c.args.text.now) answer c.carry_out.new.editor) (sym (c.as_bytes.ensures ∙ c.accepted-answer.ensures)) c.in-Changed.ensures.0 in
    OnOk-both c.keep_at_once.result
    (λ makes next request is grouped. GoesOnBy-at_once _ (g.D.Folder.calls c.commit.new.desk) _ _ c.commit.new.self _ _ _ request c.args.text.now c.as_bytes.result.now stays is told c.in-Changed.ensures.1
    (makes empty (c.as_slice.ensures.value ∙ c.in-Ok.ensures)) (next empty))
    c.keep_at_once.ensures.ok c.keep_at_once.ensures.sum

pub returns-in-Changed-clause-broken : goal.returns-in-Changed-clause-broken
returns-in-Changed-clause-broken g c =
    let empty : c.commit.new.self ≡ nothing_waits c.commit.new.self.sum = nothing-kept c.args.pending.now c.commit.new.self c.in_ok-commit.ensures.emptied in
    let stays = Stays-commit _ _ c.args.pending.now c.commit.new.self c.in_ok-commit.ensures.ok c.in_ok-commit.ensures.emptied in
    let told = subst (λ answer. IsAnswered c.args.editor.now (text_reading c.args.text.now) answer c.carry_out.new.editor) (sym (c.as_bytes.ensures ∙ c.accepted-answer.ensures)) c.in-Changed.ensures.0 in
    IfErr-map c.keep_at_once.result _ _
    (λ fault broken request is grouped. BreaksWithin-at_once _ _ (g.D.Folder.calls c.commit.new.desk) _ _ c.commit.new.self _ _ request c.args.text.now c.as_bytes.result.now stays is told c.in-Changed.ensures.1
    (broken empty (c.as_slice.ensures.value ∙ c.in-Ok.ensures)))
    c.keep_at_once.ensures.broken

pub returns-in-Grouped-clause-ok : goal.returns-in-Grouped-clause-ok
returns-in-Grouped-clause-ok g c =
    let empty : c.commit.new.self ≡ nothing_waits c.commit.new.self.sum = nothing-kept c.args.pending.now c.commit.new.self c.in_ok-commit.ensures.emptied in
    let stays = Stays-commit _ _ c.args.pending.now c.commit.new.self c.in_ok-commit.ensures.ok c.in_ok-commit.ensures.emptied in
    let told = subst (λ answer. IsAnswered c.args.editor.now (text_reading c.args.text.now) answer c.carry_out.new.editor) (sym c.as_slice-in-Grouped-2.ensures.value) c.in-Grouped.ensures.0 in
    OnOk-both c.keep_at_once-in-Grouped.result
    (λ makes next request is grouped. GoesOnBy-at_once _ (g.D.Folder.calls c.commit.new.desk) _ _ c.commit.new.self _ _ _ request c.args.text.now c.as_slice-in-Grouped-2.result.now stays is told c.in-Grouped.ensures.1
    (makes empty (c.as_slice-in-Grouped.ensures.value ∙ c.in-Ok.ensures)) (next empty))
    c.keep_at_once-in-Grouped.ensures.ok c.keep_at_once-in-Grouped.ensures.sum

pub returns-in-Grouped-clause-broken : goal.returns-in-Grouped-clause-broken
returns-in-Grouped-clause-broken g c =
    let empty : c.commit.new.self ≡ nothing_waits c.commit.new.self.sum = nothing-kept c.args.pending.now c.commit.new.self c.in_ok-commit.ensures.emptied in
    let stays = Stays-commit _ _ c.args.pending.now c.commit.new.self c.in_ok-commit.ensures.ok c.in_ok-commit.ensures.emptied in
    let told = subst (λ answer. IsAnswered c.args.editor.now (text_reading c.args.text.now) answer c.carry_out.new.editor) (sym c.as_slice-in-Grouped-2.ensures.value) c.in-Grouped.ensures.0 in
    IfErr-map c.keep_at_once-in-Grouped.result _ _
    (λ fault broken request is grouped. BreaksWithin-at_once _ _ (g.D.Folder.calls c.commit.new.desk) _ _ c.commit.new.self _ _ request c.args.text.now c.as_slice-in-Grouped-2.result.now stays is told c.in-Grouped.ensures.1
    (broken empty (c.as_slice-in-Grouped.ensures.value ∙ c.in-Ok.ensures)))
    c.keep_at_once-in-Grouped.ensures.broken

pub returns-clause-ok : goal.returns-clause-ok
returns-clause-ok g c = OnOk-map c.tell_reply-in-Told.result
    (λ tells request is grouped. GoesOnBy-as _ _ _ _ c.args.editor.now c.carry_out.new.editor _ c.in-Told.ensures.1
    (GoesOnBy-stays _ _ _ _ c.commit.new.self _ _ _ _ (Stays-commit _ _ _ _ c.in_ok-commit.ensures.ok c.in_ok-commit.ensures.emptied)
    (tells c.args.editor.now request (IsTold-of _ c.carry_out.new.editor request c.args.text.now _ is c.in-Told.ensures.0 c.in-Told.ensures.1))))
    c.tell_reply-in-Told.ensures.ok

pub returns-clause-broken : goal.returns-clause-broken
returns-clause-broken g c = IfErr-map c.tell_reply-in-Told.result _ _
    (λ fault tells request is grouped. BreaksWithin-as _ _ _ _ c.args.editor.now c.carry_out.new.editor _ c.in-Told.ensures.1
    (BreaksWithin-stays _ _ _ _ _ c.commit.new.self _ _ _ (Stays-commit _ _ _ _ c.in_ok-commit.ensures.ok c.in_ok-commit.ensures.emptied)
    (tells c.args.editor.now request (IsTold-of _ c.carry_out.new.editor request c.args.text.now _ is c.in-Told.ensures.0 c.in-Told.ensures.1))))
    c.tell_reply-in-Told.ensures.broken
