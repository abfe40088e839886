use Rattle.std.proofs.Common.{rules, sym, subst}
use Rattle.std.proofs.KnownBytes.{Consumes-nil, Keeps-refl}
use Rattle.sf_text_lines.specs.Buffers.{IsBufferOf}
use Rattle.sf_console.specs.declared.group_lines.GroupLines.TheVariants as lines
use Rattle.sf_console.specs.Requests.{Closed, left_in}
use Rattle.sf_keeping.specs.Waiting.{nothing_waits}
use Rattle.sf_keeping.specs.Underway.{KeepsOn}
use Rattle.sf_keeping.specs.declared.desk.KeepFault.TheVariants.{Read}
use Rattle.sf_keeping.proofs.CallLaws.{IfOk-map, IfErr-map, err-passed}
use Rattle.sf_keeping.proofs.KeepingLaws.{nothing-kept}
use Rattle.sf_keeping.proofs.Underways.{Stays-commit, Breaks-commit}
use Rattle.sf_keeping.proofs.ServingLaws.{KeepsOn-start, KeepsOn-lines, KeepsOn-kept, KeepsOn-filled, EndsKept-within, EndsKept-before, EndsKept-unread, EndsKept-at, ServesKept-save, ServesKept-save-broken, ServesKept-finish}
use Rattle.sf_keeping.proofs.keeping.serve_kept.Goals as goal

pub loop-init : goal.loop-init
loop-init g c = (
  subst (λ w. KeepsOn (g.R.Read.remaining c.args.reader.now) (g.R.Read.remaining c.args.reader.now) c.args.input.now.rest lines.Closed (g.D.Folder.calls c.args.desk.now) (g.D.Folder.calls c.args.desk.now) c.args.sum c.args.editor.now c.begin_line.new.self w c.args.editor.now)
      (sym c.begin.ensures) (KeepsOn-start _ _ c.args.sum c.args.editor.now c.args.input.now c.begin_line.new.self c.begin_line.ensures (Consumes-nil _)),
  nothing-kept (nothing_waits c.args.sum) c.begin.new.self c.begin.ensures,
)

pub returns-in_err-take_lines-clause-fault : goal.returns-in_err-take_lines-clause-fault
returns-in_err-take_lines-clause-fault g c =
    let p = c.loop.invariant.0 in
    err-passed c.from_residual.result c.in_err-take_lines.field-0.0 _ c.from_residual.ensures.1 (EndsKept-within _ _ _ _ c.loop.group _ _ _ _ _ _ _ c.loop.input _ p (c.in_err-take_lines.ensures.broken p.after (left_in Closed p.finished) p.is_buffer p.unfed p.is_held))

pub returns-in_err-commit-clause-fault : goal.returns-in_err-commit-clause-fault
returns-in_err-commit-clause-fault g c =
    let p = c.loop.invariant.0 in
    err-passed c.from_residual-in_err-commit.result c.in_err-commit.field-0.0 _ c.from_residual-in_err-commit.ensures.1
    (ServesKept-save-broken _ _ _ _ c.loop.group _ _ _ _ _ _ _ _ c.loop.input c.take_lines.new.input _ _ p (c.in_ok-take_lines.ensures.save c.if-branch.true p.after (left_in Closed p.finished) p.is_buffer p.unfed p.is_held)
    (Breaks-commit _ _ _ _ c.in_err-commit.ensures.broken))

pub returns-then-branch-clause-ok : goal.returns-then-branch-clause-ok
returns-then-branch-clause-ok g c =
    let p = c.loop.invariant.0 in
    ServesKept-save _ _ _ c.loop.group _ _ _ _ _ _ _ _ c.loop.input c.take_lines.new.input _ _ c.commit.new.self p (c.in_ok-take_lines.ensures.save c.if-branch.true p.after (left_in Closed p.finished) p.is_buffer p.unfed p.is_held)
    (Stays-commit _ _ _ _ c.in_ok-commit.ensures.ok c.in_ok-commit.ensures.emptied) c.in_ok-commit.ensures.emptied

pub returns-in_err-commit-2-clause-fault : goal.returns-in_err-commit-2-clause-fault
returns-in_err-commit-2-clause-fault g c =
    let p = c.loop.invariant.0 in
    let q = KeepsOn-lines _ _ _ c.loop.group c.take_lines.new.group _ _ _ _ _ _ _ c.loop.input c.take_lines.new.input _ _ p (c.in_ok-take_lines.ensures.none c.if-branch.false p.after (left_in Closed p.finished) p.is_buffer p.unfed p.is_held) in
    err-passed c.from_residual-in_err-commit-2.result c.in_err-commit-2.field-0.0 _ c.from_residual-in_err-commit-2.ensures.1 (EndsKept-before _ _ _ _ c.take_lines.new.group _ _ _ _ _ _ c.take_lines.new.input _ q (Breaks-commit _ _ _ _ c.in_err-commit-2.ensures.broken))

pub returns-in_err-fill-clause-fault : goal.returns-in_err-fill-clause-fault
returns-in_err-fill-clause-fault g c =
    let p = c.loop.invariant.0 in
    let q = KeepsOn-lines _ _ _ c.loop.group c.take_lines.new.group _ _ _ _ _ _ _ c.loop.input c.take_lines.new.input _ _ p (c.in_ok-take_lines.ensures.none c.if-branch.false p.after (left_in Closed p.finished) p.is_buffer p.unfed p.is_held) in
    let k = KeepsOn-kept _ _ _ c.take_lines.new.group _ _ _ _ _ _ c.take_lines.new.input _ c.commit-in-loop.new.self q (Stays-commit _ _ _ _ c.in_ok-commit-2.ensures.ok c.in_ok-commit-2.ensures.emptied) in
    err-passed c.from_residual-in_err-fill.result Read _ c.from_residual-in_err-fill.ensures.1
    (EndsKept-unread _ _ _ _ c.take_lines.new.group _ _ _ _ _ c.take_lines.new.input _ k (nothing-kept c.take_lines.new.pending c.commit-in-loop.new.self c.in_ok-commit-2.ensures.emptied) c.in_err-fill.ensures.kept)

pub returns-then-not-branch-clause-ok : goal.returns-then-not-branch-clause-ok
returns-then-not-branch-clause-ok g c =
    let p = c.loop.invariant.0 in
    let q = KeepsOn-lines _ _ _ c.loop.group c.take_lines.new.group _ _ _ _ _ _ _ c.loop.input c.take_lines.new.input _ _ p (c.in_ok-take_lines.ensures.none c.if-branch.false p.after (left_in Closed p.finished) p.is_buffer p.unfed p.is_held) in
    let k = KeepsOn-kept _ _ _ c.take_lines.new.group _ _ _ _ _ _ c.take_lines.new.input _ c.commit-in-loop.new.self q (Stays-commit _ _ _ _ c.in_ok-commit-2.ensures.ok c.in_ok-commit-2.ensures.emptied) in
    let f = KeepsOn-filled _ _ _ _ c.take_lines.new.group _ _ _ _ _ c.take_lines.new.input c.fill.new.self _ k (c.in_ok-take_lines.ensures.all c.if-branch.false) c.in_ok-fill.ensures.consumed c.in_ok-fill.ensures.begun in
    let end = c.in_ok-fill.ensures.end (search rules) in
    let buffer : IsBufferOf f.after c.line.result.now = subst (IsBufferOf f.after) (sym c.line.ensures) f.is_buffer in
    let empty = nothing-kept c.take_lines.new.pending c.commit-in-loop.new.self c.in_ok-commit-2.ensures.emptied in
    IfOk-map c.finish.result _ _ (λ stop finishes. ServesKept-finish _ _ _ c.take_lines.new.group _ _ _ _ _ _ _ c.fill.new.self _ c.finish.new.pending stop f end.0 end.1 (finishes f.after (left_in Closed f.finished) buffer f.unfed f.is_held empty)) c.finish.ensures.ok

pub returns-then-not-branch-clause-fault : goal.returns-then-not-branch-clause-fault
returns-then-not-branch-clause-fault g c =
    let p = c.loop.invariant.0 in
    let q = KeepsOn-lines _ _ _ c.loop.group c.take_lines.new.group _ _ _ _ _ _ _ c.loop.input c.take_lines.new.input _ _ p (c.in_ok-take_lines.ensures.none c.if-branch.false p.after (left_in Closed p.finished) p.is_buffer p.unfed p.is_held) in
    let k = KeepsOn-kept _ _ _ c.take_lines.new.group _ _ _ _ _ _ c.take_lines.new.input _ c.commit-in-loop.new.self q (Stays-commit _ _ _ _ c.in_ok-commit-2.ensures.ok c.in_ok-commit-2.ensures.emptied) in
    let f = KeepsOn-filled _ _ _ _ c.take_lines.new.group _ _ _ _ _ c.take_lines.new.input c.fill.new.self _ k (c.in_ok-take_lines.ensures.all c.if-branch.false) c.in_ok-fill.ensures.consumed c.in_ok-fill.ensures.begun in
    let end = c.in_ok-fill.ensures.end (search rules) in
    let buffer : IsBufferOf f.after c.line.result.now = subst (IsBufferOf f.after) (sym c.line.ensures) f.is_buffer in
    IfErr-map c.finish.result _ _ (λ fault broken. let b = broken f.after (left_in Closed f.finished) buffer f.unfed f.is_held in
    EndsKept-at _ _ _ _ c.take_lines.new.group _ _ _ _ _ _ _ c.fill.new.self _ f end.0 b.0 b.1) c.finish.ensures.broken

pub loop-preserved : goal.loop-preserved
loop-preserved g c =
    let p = c.loop.invariant.0 in
    let q = KeepsOn-lines _ _ _ c.loop.group c.take_lines.new.group _ _ _ _ _ _ _ c.loop.input c.take_lines.new.input _ _ p (c.in_ok-take_lines.ensures.none c.if-branch.false p.after (left_in Closed p.finished) p.is_buffer p.unfed p.is_held) in
    let k = KeepsOn-kept _ _ _ c.take_lines.new.group _ _ _ _ _ _ c.take_lines.new.input _ c.commit-in-loop.new.self q (Stays-commit _ _ _ _ c.in_ok-commit-2.ensures.ok c.in_ok-commit-2.ensures.emptied) in
    let f = KeepsOn-filled _ _ _ _ c.take_lines.new.group _ _ _ _ _ c.take_lines.new.input c.fill.new.self _ k (c.in_ok-take_lines.ensures.all c.if-branch.false) c.in_ok-fill.ensures.consumed c.in_ok-fill.ensures.begun in
    (f, nothing-kept c.take_lines.new.pending c.commit-in-loop.new.self c.in_ok-commit-2.ensures.emptied)

pub returns-clause-fault : goal.returns-clause-fault
returns-clause-fault g c = EndsKept-unread _ _ _ _ c.loop.group _ _ _ _ _ c.loop.input _ c.loop.invariant.0 c.loop.invariant.1 (Keeps-refl _)
