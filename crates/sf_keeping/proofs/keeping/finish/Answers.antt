use Rattle.std.proofs.Common.{◌≡◌, false, sym, ◌∙◌}
use Rattle.sf_console.specs.Requests.{Closed}
use Rattle.sf_keeping.specs.Saves.{is_save}
use Rattle.sf_keeping.specs.Underway.{last_left}
use Rattle.sf_keeping.proofs.CallLaws.{err-passed}
use Rattle.sf_keeping.proofs.KeepingLaws.{end_asked, nothing-kept, IsTold-by, GoesOnBy-end, BreaksWithin-end, BreaksWithin-end_kept, BreaksWithin-last}
use Rattle.sf_keeping.proofs.RequestLaws.{end-ask-for-none}
use Rattle.sf_keeping.proofs.TakingLaws.{not-closed}
use Rattle.sf_keeping.proofs.Underways.{Breaks-commit, Stays-commit}
use Rattle.sf_keeping.proofs.keeping.finish.Goals as goal
use Rattle.sf_keeping.proofs.keeping.finish.Goals.{else-is_closed-via-then-is_closed+else-is_last_save, else-is_closed-via-else-is_closed}

pub returns-in_err-keep_last-clause-broken : goal.returns-in_err-keep_last-clause-broken
returns-in_err-keep_last-clause-broken g c = err-passed c.from_residual.result c.in_err-keep_last.field-0.0 _ c.from_residual.ensures.1 (λ bytes gathering is_buffer unfed is_held.
    let none : gathering ≡ Closed → is_save bytes ≡ false = elim c.else-is_closed.branch [
      | else-is_closed-via-then-is_closed+else-is_last_save w ↦ λ _. sym (w.is_last_save.ensures bytes is_buffer) ∙ w.if-is_last_save.false
      | else-is_closed-via-else-is_closed w ↦ not-closed gathering c.is_closed.result (c.is_closed.ensures gathering is_held) w.if-is_closed.false
    ] in
    (end-ask-for-none gathering bytes none, BreaksWithin-last _ _ _ _ _ _ gathering bytes (c.in_err-keep_last.ensures.broken bytes gathering is_buffer unfed is_held)))

pub returns-in_err-tell_reply-clause-broken : goal.returns-in_err-tell_reply-clause-broken
returns-in_err-tell_reply-clause-broken g c = err-passed c.from_residual-in_err-tell_reply.result c.in_err-tell_reply.field-0.0 _ c.from_residual-in_err-tell_reply.ensures.1 (λ bytes gathering is_buffer unfed is_held.
    let none : gathering ≡ Closed → is_save bytes ≡ false = elim c.else-is_closed.branch [
      | else-is_closed-via-then-is_closed+else-is_last_save w ↦ λ _. sym (w.is_last_save.ensures bytes is_buffer) ∙ w.if-is_last_save.false
      | else-is_closed-via-else-is_closed w ↦ not-closed gathering c.is_closed.result (c.is_closed.ensures gathering is_held) w.if-is_closed.false
    ] in
    let kept = c.in_ok-keep_last.ensures.ok bytes gathering is_buffer unfed is_held in
    let told = IsTold-by c.keep_last.new.editor (end_asked gathering bytes) _ (c.answer_end.ensures (last_left gathering bytes) c.keep_last.new.editor kept.1) in
    (end-ask-for-none gathering bytes none, BreaksWithin-end _ _ _ _ _ c.keep_last.new.pending _ _ gathering bytes kept.0 (c.in_err-tell_reply.ensures.broken c.keep_last.new.editor (end_asked gathering bytes) told)))

pub returns-in_err-commit-clause-broken : goal.returns-in_err-commit-clause-broken
returns-in_err-commit-clause-broken g c = err-passed c.from_residual-in_err-commit.result c.in_err-commit.field-0.0 _ c.from_residual-in_err-commit.ensures.1 (λ bytes gathering is_buffer unfed is_held.
    let none : gathering ≡ Closed → is_save bytes ≡ false = elim c.else-is_closed.branch [
      | else-is_closed-via-then-is_closed+else-is_last_save w ↦ λ _. sym (w.is_last_save.ensures bytes is_buffer) ∙ w.if-is_last_save.false
      | else-is_closed-via-else-is_closed w ↦ not-closed gathering c.is_closed.result (c.is_closed.ensures gathering is_held) w.if-is_closed.false
    ] in
    let kept = c.in_ok-keep_last.ensures.ok bytes gathering is_buffer unfed is_held in
    let told = IsTold-by c.keep_last.new.editor (end_asked gathering bytes) _ (c.answer_end.ensures (last_left gathering bytes) c.keep_last.new.editor kept.1) in (
      end-ask-for-none gathering bytes none,
      BreaksWithin-end_kept _ _ _ _ _ _ c.keep_last.new.pending c.tell_reply.new.pending _ _ gathering bytes kept.0 (c.in_ok-tell_reply.ensures.ok c.keep_last.new.editor (end_asked gathering bytes) told)
          (Breaks-commit _ _ _ _ c.in_err-commit.ensures.broken),
    ))

pub returns-clause-ok : goal.returns-clause-ok
returns-clause-ok g c = λ bytes gathering is_buffer unfed is_held _.
    let none : gathering ≡ Closed → is_save bytes ≡ false = elim c.else-is_closed.branch [
      | else-is_closed-via-then-is_closed+else-is_last_save w ↦ λ _. sym (w.is_last_save.ensures bytes is_buffer) ∙ w.if-is_last_save.false
      | else-is_closed-via-else-is_closed w ↦ not-closed gathering c.is_closed.result (c.is_closed.ensures gathering is_held) w.if-is_closed.false
    ] in
    let kept = c.in_ok-keep_last.ensures.ok bytes gathering is_buffer unfed is_held in
    let told = IsTold-by c.keep_last.new.editor (end_asked gathering bytes) _ (c.answer_end.ensures (last_left gathering bytes) c.keep_last.new.editor kept.1) in (
      end-ask-for-none gathering bytes none,
      nothing-kept c.tell_reply.new.pending c.commit.new.self c.in_ok-commit.ensures.emptied,
      GoesOnBy-end _ _ _ _ _ c.keep_last.new.pending c.tell_reply.new.pending c.commit.new.self _ _ gathering bytes kept.0 (c.in_ok-tell_reply.ensures.ok c.keep_last.new.editor (end_asked gathering bytes) told)
          (Stays-commit _ _ _ _ c.in_ok-commit.ensures.ok c.in_ok-commit.ensures.emptied),
    )
