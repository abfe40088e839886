use Rattle.std.proofs.Common.{ap, option_map}
use Rattle.sf_saving.specs.Canonical.{canonical_ruled}
use Rattle.sf_console.specs.History.{ruled_now}
use Rattle.sf_run.proofs.FileLaws.{given-up, placed, unbegun, unplaced}
use Rattle.sf_run.proofs.files.save_to.Goals as goal

pub returns-in-Err-clause-fault : goal.returns-in-Err-clause-fault
returns-in-Err-clause-fault g c =
    unbegun c.in-Some.path.now _ _ _ (ap (option_map (λ path. path.now)) c.in-Some.is) c.in-Err.ensures.failed

pub returns-in-Err-save-clause-fault : goal.returns-in-Err-save-clause-fault
returns-in-Err-save-clause-fault g c = given-up c.in-Some.path.now _ _ _ _ (ap (option_map (λ path. path.now)) c.in-Some.is) c.in-Ok.ensures.begun c.give_up.ensures

pub returns-in-Ok-finish-clause-ok : goal.returns-in-Ok-finish-clause-ok
returns-in-Ok-finish-clause-ok g c =
    placed c.in-Some.path.now _ _ _ _ (g.F.Target.Write.contents c.in-Ok.target) (g.F.Target.Write.contents c.save.new.file) (canonical_ruled (ruled_now c.args.served.now)) (ap (option_map (λ path. path.now)) c.in-Some.is)
    c.in-Ok.ensures.empty c.in_default-save.ensures.ok c.in-Ok.ensures.begun c.in-Ok-finish.ensures.finished

pub returns-in-Err-finish-clause-fault : goal.returns-in-Err-finish-clause-fault
returns-in-Err-finish-clause-fault g c =
    unplaced c.in-Some.path.now _ _ _ _ (g.F.Target.Write.contents c.save.new.file) (ap (option_map (λ path. path.now)) c.in-Some.is) c.in-Ok.ensures.begun c.in-Err-finish.ensures.failed
