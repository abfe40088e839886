use Rattle.sf_session.proofs.SessionLaws.{served-saved}
use Rattle.sf_session.proofs.session.serve.Goals as goal

pub returns-clause-ok : goal.returns-clause-ok
returns-clause-ok g c =
    served-saved _ _ _ _ _ _ c.in_ok-save_store.field-0 c.if-keep.false c.in_ok-serve_all.ensures.ok c.in_ok-save_store.ensures.ok
