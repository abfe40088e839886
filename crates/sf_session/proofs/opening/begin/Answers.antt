use Rattle.sf_session.proofs.SessionLaws.{begun, unbegun-journal}
use Rattle.sf_session.proofs.OpeningLaws.{err-passed}
use Rattle.sf_session.proofs.opening.begin.Goals as goal

pub returns-in_err-sum-clause-fault : goal.returns-in_err-sum-clause-fault
returns-in_err-sum-clause-fault g c =
    let loaded = c.in_ok-loaded.ensures.ok in
    err-passed _ c.in_err-sum.field-0.0 _ c.from_residual-in_err-sum.ensures.1
    (unbegun-journal c.in_err-sum.field-0.0 loaded.0 _ _ _ _ _ _ _ c.in_ok-take_lock.ensures.locked loaded.1 loaded.2 c.in_err-sum.ensures.fault)

pub returns-clause-ok : goal.returns-clause-ok
returns-clause-ok g c =
    let loaded = c.in_ok-loaded.ensures.ok in
    let opens = c.in_ok-sum.ensures.ok in
    λ unread. begun unread loaded.0 _ _ _ _ opens.0 _ _ _ _ _ c.in_ok-take_lock.ensures.locked loaded.1 loaded.2 opens.1 opens.2
