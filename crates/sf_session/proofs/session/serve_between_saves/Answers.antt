use Rattle.sf_session.proofs.OpeningLaws.{err-passed}
use Rattle.sf_session.proofs.SessionLaws.{saved-more, saves-once, unkept, unserved, unserved-here}
use Rattle.sf_session.proofs.session.serve_between_saves.Goals as goal

pub returns-in_err-sum-in-Ok-Save-clause-fault : goal.returns-in_err-sum-in-Ok-Save-clause-fault
returns-in_err-sum-in-Ok-Save-clause-fault g c =
    err-passed c.from_residual.result c.in_err-sum-in-Ok-Save.field-0.0 _ c.from_residual.ensures.1
    (unkept _ _ _ _ c.loop.invariant.0 _ _ _ _ _ _ c.loop.invariant.1 c.in-Ok-Save.field-0-is c.in-Ok-Save.ensures.ok c.in_err-sum-in-Ok-Save.ensures.fault)

pub returns-in-Err-clause-fault : goal.returns-in-Err-clause-fault
returns-in-Err-clause-fault g c = unserved c.in-Err.fault _ _ c.loop.invariant.0 _ _ c.serve_kept.new.editor c.loop.invariant.1 c.in-Err.ensures.fault

pub loop-preserved : goal.loop-preserved
loop-preserved g c =
    saved-more _ _ c.loop.invariant.0 _ c.loop.invariant.1
    (saves-once _ _ _ _ _ _ _ _ _ _ c.in-Ok-Save.field-0-is c.in-Ok-Save.ensures.ok c.in_ok-sum-in-Ok-Save.ensures.ok c.in_ok-sum-in-Ok-Save.ensures.ended)

pub returns-clause-fault : goal.returns-clause-fault
returns-clause-fault g c = unserved-here _ _ c.loop.invariant.0 c.loop.invariant.1
