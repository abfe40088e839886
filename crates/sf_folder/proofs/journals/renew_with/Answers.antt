use Rattle.std.proofs.Common.{subst, sym}
use Rattle.sf_folder.specs.Calls.{Tries}
use Rattle.sf_folder.specs.Renewals.{settling_calls, rewriting_calls, renewing_calls}
use Rattle.sf_folder.proofs.Chains.{on-err, on-err-map, tries-first, tries-then}
use Rattle.sf_folder.proofs.journals.renew_with.Goals as goal

pub returns-in_err-settle-in-Beside-clause-tried : goal.returns-in_err-settle-in-Beside-clause-tried
returns-in_err-settle-in-Beside-clause-tried g c =
    on-err c.from_residual.result
    (subst (λ x. Tries (g.F.Folder.calls c.args.folder.now) (g.F.Folder.calls c.settle.new.folder) (renewing_calls x c.args.head.now c.args.records.now)) (sym c.in-Beside.is)
    (tries-first (g.F.Folder.calls c.args.folder.now) (g.F.Folder.calls c.settle.new.folder) settling_calls (rewriting_calls c.args.head.now c.args.records.now) c.in_err-settle-in-Beside.ensures.tried))

pub returns-in_ok-settle-in-Beside-clause-tried : goal.returns-in_ok-settle-in-Beside-clause-tried
returns-in_ok-settle-in-Beside-clause-tried g c =
    on-err-map c.rewrite.result c.rewrite.ensures.tried
    (λ t. subst (λ x. Tries (g.F.Folder.calls c.args.folder.now) (g.F.Folder.calls c.rewrite.new.folder) (renewing_calls x c.args.head.now c.args.records.now)) (sym c.in-Beside.is)
    (tries-then (g.F.Folder.calls c.args.folder.now) (g.F.Folder.calls c.settle.new.folder) (g.F.Folder.calls c.rewrite.new.folder) settling_calls (rewriting_calls c.args.head.now c.args.records.now)
    c.in_ok-settle-in-Beside.ensures.done t))
