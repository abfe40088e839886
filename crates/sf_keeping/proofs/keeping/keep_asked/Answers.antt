use Rattle.std.proofs.Common.{option_copied, ◌∷◌, [], sym, subst}
use Rattle.sf_console.specs.Gatherings.{Asks}
use Rattle.sf_keeping.specs.Underway.{GoesOnBy, BreaksWithin}
use Rattle.sf_keeping.proofs.CallLaws.{OnOk-map, IfErr-map}
use Rattle.sf_keeping.proofs.KeepingLaws.{IsTold-nothing}
use Rattle.sf_keeping.proofs.keeping.keep_asked.Goals as goal

pub returns-in-Nothing-clause-ok : goal.returns-in-Nothing-clause-ok
returns-in-Nothing-clause-ok g c = OnOk-map c.tell_reply.result
    (λ tells request asks is_text. tells c.args.editor.now request (IsTold-nothing c.args.editor.now request (subst (Asks (option_copied c.args.line) request) c.in-Nothing.is asks))) c.tell_reply.ensures.ok

pub returns-in-Nothing-clause-broken : goal.returns-in-Nothing-clause-broken
returns-in-Nothing-clause-broken g c = IfErr-map c.tell_reply.result _ _
    (λ fault tells request asks is_text. tells c.args.editor.now request (IsTold-nothing c.args.editor.now request (subst (Asks (option_copied c.args.line) request) c.in-Nothing.is asks))) c.tell_reply.ensures.broken

pub returns-in-Itself-clause-ok : goal.returns-in-Itself-clause-ok
returns-in-Itself-clause-ok g c = OnOk-map c.keep_alone.result
    (λ goes request asks is_text. subst (λ r. GoesOnBy (g.D.Folder.calls c.args.desk.now) (g.D.Folder.calls c.keep_alone.new.desk) c.args.pending.now c.args.editor.now (r ∷ []) c.keep_alone.new.pending c.keep_alone.new.editor)
    (sym (subst (Asks (option_copied c.args.line) request) c.in-Itself.is asks)) (goes is_text)) c.keep_alone.ensures.ok

pub returns-in-Itself-clause-broken : goal.returns-in-Itself-clause-broken
returns-in-Itself-clause-broken g c = IfErr-map c.keep_alone.result _ _
    (λ fault breaks request asks is_text. subst (λ r. BreaksWithin fault (g.D.Folder.calls c.args.desk.now) (g.D.Folder.calls c.keep_alone.new.desk) c.args.pending.now c.args.editor.now (r ∷ []) c.keep_alone.new.editor)
    (sym (subst (Asks (option_copied c.args.line) request) c.in-Itself.is asks)) (breaks is_text)) c.keep_alone.ensures.broken
