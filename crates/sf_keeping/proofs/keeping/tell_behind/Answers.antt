use Rattle.std.proofs.Common.{sym, ap, ◌∙◌}
use Rattle.sf_keeping.specs.declared.desk.KeepFault.TheVariants.{Write}
use Rattle.sf_keeping.proofs.CallLaws.{some-without-room, err-passed}
use Rattle.sf_keeping.proofs.Underways.{Stays-commit, Breaks-commit, GoesOnBy-behind, GoesOnBy-answered, BreaksWithin-before, BreaksWithin-answered}
use Rattle.sf_keeping.proofs.keeping.tell_behind.Goals as goal

pub returns-in_err-commit-clause-broken : goal.returns-in_err-commit-clause-broken
returns-in_err-commit-clause-broken g c = err-passed c.from_residual.result c.in_err-commit.field-0.0 _ c.from_residual.ensures.1 (λ machine line told. BreaksWithin-before _ _ _ _ machine _ (Breaks-commit _ _ _ _ c.in_err-commit.ensures.broken))

pub returns-then-has_room_for-clause-ok : goal.returns-then-has_room_for-clause-ok
returns-then-has_room_for-clause-ok g c = λ machine line told.
    GoesOnBy-behind _ _ _ c.commit.new.self _ machine line _ (Stays-commit _ _ _ _ c.in_ok-commit.ensures.ok c.in_ok-commit.ensures.emptied) told c.put.ensures

pub returns-in_err-answer-clause-broken : goal.returns-in_err-answer-clause-broken
returns-in_err-answer-clause-broken g c = err-passed c.from_residual-in_err-answer.result Write _ c.from_residual-in_err-answer.ensures.1 (λ machine line told.
    BreaksWithin-answered _ _ _ _ c.commit.new.self machine line c.args.answer.now _ (Stays-commit _ _ _ _ c.in_ok-commit.ensures.ok c.in_ok-commit.ensures.emptied)
    c.in_ok-commit.ensures.emptied told c.in_err-answer.ensures.failed)

pub returns-clause-ok : goal.returns-clause-ok
returns-clause-ok g c = λ machine line told.
    GoesOnBy-answered _ _ _ _ c.commit.new.self machine line c.args.answer.now _ (Stays-commit _ _ _ _ c.in_ok-commit.ensures.ok c.in_ok-commit.ensures.emptied)
    c.in_ok-commit.ensures.emptied told
    (some-without-room c.commit.new.self.answers c.args.answer.now 8388608 (ap (λ w. w.answers) c.in_ok-commit.ensures.emptied) (sym c.has_room_for.ensures ∙ c.if-has_room_for.false)) c.in_ok-answer.ensures.ok
