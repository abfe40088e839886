use Rattle.std.proofs.Common.{Some}
use Rattle.std.proofs.lemmas.Result.{IfErr-weaker}
use Rattle.sf_folder.proofs.Chains.{does-then}
use Rattle.sf_session.proofs.OpeningLaws.{IfOk-with, some-of, unloaded}
use Rattle.sf_session.proofs.opening.load_store.Goals as goal

pub returns-in-Ok-Some-clause-ok : goal.returns-in-Ok-Some-clause-ok
returns-in-Ok-Some-clause-ok g c =
    IfOk-with c.load_opened.result _ _ c.load_opened.ensures.ok c.load_opened.ensures.calls
    (λ loaded begins stays. (Some (g.H.File.Read.remaining c.in-Ok-Some.opened.file), begins, does-then _ _ _ _ _ (some-of c.in-Ok-Some.field-0 c.in-Ok-Some.opened _ _ c.in-Ok-Some.field-0-is c.in-Ok-Some.ensures.found).0 stays))

pub returns-in-Ok-Some-clause-fault : goal.returns-in-Ok-Some-clause-fault
returns-in-Ok-Some-clause-fault g c =
    IfErr-weaker c.load_opened.result _ _
    (λ fault has. unloaded fault (g.H.File.Read.remaining c.in-Ok-Some.opened.file) _ _ _ (some-of c.in-Ok-Some.field-0 c.in-Ok-Some.opened _ _ c.in-Ok-Some.field-0-is c.in-Ok-Some.ensures.found).0 has)
    c.load_opened.ensures.fault
