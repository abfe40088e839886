use Rattle.std.proofs.Common.{◌∷◌, []}
use Rattle.sf_folder.specs.declared.names.Name.TheVariants.{JournalBeside}
use Rattle.sf_folder.specs.Calls.{Begins, Writes}
use Rattle.sf_folder.proofs.Chains.{on-err, on-err-map, on-ok-map, does-then, tries-first, tries-then}
use Rattle.sf_folder.proofs.journals.begin_journal.Goals as goal

pub returns-in_err-begin-clause-tried : goal.returns-in_err-begin-clause-tried
returns-in_err-begin-clause-tried g c =
    on-err c.from_residual.result
    (tries-first (g.F.Folder.calls c.args.folder.now) (g.F.Folder.calls c.begin.new.self) (Begins JournalBeside ∷ []) (Writes JournalBeside c.args.head.now ∷ []) c.in_err-begin.ensures.tried)

pub returns-clause-done : goal.returns-clause-done
returns-clause-done g c =
    on-ok-map c.write.result c.write.ensures.done
    (does-then (g.F.Folder.calls c.args.folder.now) (g.F.Folder.calls c.begin.new.self) (g.F.Folder.calls c.write.new.self) (Begins JournalBeside ∷ []) (Writes JournalBeside c.args.head.now ∷ [])
    c.in_ok-begin.ensures.done)

pub returns-clause-tried : goal.returns-clause-tried
returns-clause-tried g c =
    on-err-map c.write.result c.write.ensures.tried
    (tries-then (g.F.Folder.calls c.args.folder.now) (g.F.Folder.calls c.begin.new.self) (g.F.Folder.calls c.write.new.self) (Begins JournalBeside ∷ []) (Writes JournalBeside c.args.head.now ∷ [])
    c.in_ok-begin.ensures.done)
