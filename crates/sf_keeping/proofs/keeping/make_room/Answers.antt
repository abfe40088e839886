use Rattle.sf_keeping.proofs.CallLaws.{OnOk-both, IfErr-map}
use Rattle.sf_keeping.proofs.Underways.{Stays-commit, Breaks-commit}
use Rattle.sf_keeping.proofs.keeping.make_room.Goals as goal

pub returns-clause-ok : goal.returns-clause-ok
returns-clause-ok g c = OnOk-both c.commit.result (Stays-commit _ _ _ _) c.commit.ensures.ok c.commit.ensures.emptied

pub returns-clause-broken : goal.returns-clause-broken
returns-clause-broken g c = IfErr-map c.commit.result _ _ (λ fault. Breaks-commit _ _ _ _) c.commit.ensures.broken
