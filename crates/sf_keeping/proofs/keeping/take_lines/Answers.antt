use Rattle.std.proofs.Common.{◌≡◌, ◌++◌, false, sym, ◌∙◌, subst}
use Rattle.sf_text_lines.specs.Buffers.{IsBufferOf}
use Rattle.sf_text_lines.proofs.LineLemmas.{HasNoFeed-append}
use Rattle.sf_console.specs.Requests.{Closed, left_in}
use Rattle.sf_keeping.proofs.CallLaws.{err-passed}
use Rattle.sf_keeping.proofs.TakingLaws.{IsNoSave, TakesLines-start, TakesLines-line, TakesLines-rest, TakesSave-line, BreaksLines-line, ended-buffer, not-closed}
use Rattle.sf_keeping.proofs.keeping.take_lines.Goals as goal
use Rattle.sf_keeping.proofs.keeping.take_lines.Goals.{else-is_closed-via-then-is_closed+else-asks_for_save, else-is_closed-via-else-is_closed}

pub loop-alloc-init : goal.loop-alloc-init
loop-alloc-init g c = λ before gathering is_buffer unfed is_held. TakesLines-start before gathering c.args.group.now _ _ _ c.args.input.now is_buffer unfed is_held

pub returns-then-asks_for_save-clause-save : goal.returns-then-asks_for_save-clause-save
returns-then-asks_for_save-clause-save g c = λ _ before gathering is_buffer unfed is_held.
    let t = c.loop-alloc.invariant before gathering is_buffer unfed is_held in
    let e = c.end_line.ensures.ends c.loop-alloc-test.true in
    let buffer : IsBufferOf (t.after ++ e.front) c.line.result.now =
    subst (IsBufferOf (t.after ++ e.front)) (sym c.line.ensures) (ended-buffer t.after c.loop-alloc.input c.end_line.new.self t.is_buffer e) in
    let closed : left_in gathering t.finished ≡ Closed = (c.is_closed.ensures (left_in gathering t.finished) t.is_held).0 c.if-is_closed.true in
    TakesSave-line before _ gathering c.loop-alloc.group _ _ _ _ _ _ c.loop-alloc.input c.end_line.new.self _ t e closed
    (sym (c.asks_for_save.ensures (t.after ++ e.front) buffer) ∙ c.if-asks_for_save.true) c.begin_line.ensures

pub returns-in_err-keep_line-clause-broken : goal.returns-in_err-keep_line-clause-broken
returns-in_err-keep_line-clause-broken g c = err-passed c.from_residual.result c.in_err-keep_line.field-0.0 _ c.from_residual.ensures.1 (λ before gathering is_buffer unfed is_held.
    let t = c.loop-alloc.invariant before gathering is_buffer unfed is_held in
    let e = c.end_line.ensures.ends c.loop-alloc-test.true in
    let ended : IsBufferOf (t.after ++ e.front) c.end_line.new.self.begun = ended-buffer t.after c.loop-alloc.input c.end_line.new.self t.is_buffer e in
    let again : IsBufferOf (t.after ++ e.front) c.line-in-loop-alloc.result.now = subst (IsBufferOf (t.after ++ e.front)) (sym c.line-in-loop-alloc.ensures) ended in
    let none : IsNoSave (left_in gathering t.finished) (t.after ++ e.front) = elim c.else-is_closed.branch [
      | else-is_closed-via-then-is_closed+else-asks_for_save w ↦ λ _. sym (w.asks_for_save.ensures (t.after ++ e.front) (subst (IsBufferOf (t.after ++ e.front)) (sym w.line.ensures) ended)) ∙ w.if-asks_for_save.false
      | else-is_closed-via-else-is_closed w ↦ not-closed (left_in gathering t.finished) c.is_closed.result (c.is_closed.ensures (left_in gathering t.finished) t.is_held) w.if-is_closed.false
    ] in
    BreaksLines-line _ before _ gathering c.loop-alloc.group _ _ _ _ _ _ _ _ c.loop-alloc.input c.end_line.new.self t e none
    (c.in_err-keep_line.ensures.broken (t.after ++ e.front) (left_in gathering t.finished) again (HasNoFeed-append t.after e.front t.unfed e.unfed) t.is_held))

pub loop-alloc-preserved : goal.loop-alloc-preserved
loop-alloc-preserved g c = λ before gathering is_buffer unfed is_held.
    let t = c.loop-alloc.invariant before gathering is_buffer unfed is_held in
    let e = c.end_line.ensures.ends c.loop-alloc-test.true in
    let ended : IsBufferOf (t.after ++ e.front) c.end_line.new.self.begun = ended-buffer t.after c.loop-alloc.input c.end_line.new.self t.is_buffer e in
    let again : IsBufferOf (t.after ++ e.front) c.line-in-loop-alloc.result.now = subst (IsBufferOf (t.after ++ e.front)) (sym c.line-in-loop-alloc.ensures) ended in
    let none : IsNoSave (left_in gathering t.finished) (t.after ++ e.front) = elim c.else-is_closed.branch [
      | else-is_closed-via-then-is_closed+else-asks_for_save w ↦ λ _. sym (w.asks_for_save.ensures (t.after ++ e.front) (subst (IsBufferOf (t.after ++ e.front)) (sym w.line.ensures) ended)) ∙ w.if-asks_for_save.false
      | else-is_closed-via-else-is_closed w ↦ not-closed (left_in gathering t.finished) c.is_closed.result (c.is_closed.ensures (left_in gathering t.finished) t.is_held) w.if-is_closed.false
    ] in
    let kept = c.in_ok-keep_line.ensures.ok (t.after ++ e.front) (left_in gathering t.finished) again (HasNoFeed-append t.after e.front t.unfed e.unfed) t.is_held in
    TakesLines-line before _ gathering c.loop-alloc.group c.keep_line.new.group _ _ _ _ _ _ _ _ _ c.loop-alloc.input c.end_line.new.self _ t e none kept.0 kept.1 c.begin_line-in-loop-alloc.ensures

pub returns-clause-none : goal.returns-clause-none
returns-clause-none g c = λ _ before gathering is_buffer unfed is_held.
    TakesLines-rest before _ gathering c.loop-alloc.group _ _ _ _ _ _ c.loop-alloc.input c.end_line.new.self (c.loop-alloc.invariant before gathering is_buffer unfed is_held)
    (c.end_line.ensures.goes_on c.loop-alloc-test.false)
