use Rattle.std.proofs.lemmas.Result.{IfErr-weaker}
use Rattle.sf_layers.proofs.Outcomes.{OnOk-map}
use Rattle.sf_run.proofs.FileLaws.{does-then, ends-unsaved}
use Rattle.sf_run.proofs.files.run_between.Goals as goal

pub returns-clause-ok : goal.returns-clause-ok
returns-clause-ok g c =
    let from = c.in_ok-served.ensures.ok in
    OnOk-map c.save_to.result
    (λ s. record {
      served = c.in_ok-served.served;
      loading = from.0;
      serves = from.1;
      saving = s.0;
      saves = s.1;
      calls = does-then _ _ _ _ _ from.2 s.2;
    })
    c.save_to.ensures.ok

pub returns-clause-fault : goal.returns-clause-fault
returns-clause-fault g c =
    let from = c.in_ok-served.ensures.ok in
    IfErr-weaker c.save_to.result _ _ (λ fault unsaved. ends-unsaved fault _ _ _ _ _ from.0 _ _ _ _ c.in_ok-served.served from.1 from.2 unsaved) c.save_to.ensures.fault
