use Rattle.std.proofs.Common.{◌∷◌, [], ◌++◌}
use Rattle.sf_folder.specs.declared.names.Name.TheVariants.{StoreBeside, JournalBeside}
use Rattle.sf_folder.specs.Calls.{SyncsFile, SyncsFolder}
use Rattle.sf_folder.specs.Saves.{beginning_calls, placing_calls}
use Rattle.sf_folder.proofs.Chains.{on-err, on-err-map, on-ok-map, does-then, tries-first, tries-then, tries-at}
use Rattle.sf_folder.proofs.saving.finish_with.Goals as goal

pub returns-in_err-sync-clause-tried : goal.returns-in_err-sync-clause-tried
returns-in_err-sync-clause-tried g c =
    on-err c.from_residual.result
    (tries-first (g.F.Folder.calls c.args.folder.now) (g.F.Folder.calls c.sync.new.self) (SyncsFile StoreBeside ∷ []) ((beginning_calls c.args.head.now) ++ ((SyncsFile JournalBeside ∷ []) ++ ((SyncsFolder ∷ []) ++ (placing_calls)))) c.in_err-sync.ensures.tried)

pub returns-in_err-begin_journal-clause-tried : goal.returns-in_err-begin_journal-clause-tried
returns-in_err-begin_journal-clause-tried g c =
    on-err c.from_residual-in_err-begin_journal.result
    (tries-at (g.F.Folder.calls c.args.folder.now) (g.F.Folder.calls c.sync.new.self) (g.F.Folder.calls c.begin_journal.new.folder) (SyncsFile StoreBeside ∷ []) (beginning_calls c.args.head.now) ((SyncsFile JournalBeside ∷ []) ++ ((SyncsFolder ∷ []) ++ (placing_calls)))
    c.in_ok-sync.ensures.done c.in_err-begin_journal.ensures.tried)

pub returns-in_err-sync-2-clause-tried : goal.returns-in_err-sync-2-clause-tried
returns-in_err-sync-2-clause-tried g c =
    on-err c.from_residual-in_err-sync-2.result
    (tries-at (g.F.Folder.calls c.args.folder.now) (g.F.Folder.calls c.begin_journal.new.folder) (g.F.Folder.calls c.sync-2.new.self) ((SyncsFile StoreBeside ∷ []) ++ (beginning_calls c.args.head.now)) (SyncsFile JournalBeside ∷ []) ((SyncsFolder ∷ []) ++ (placing_calls))
    (does-then (g.F.Folder.calls c.args.folder.now) (g.F.Folder.calls c.sync.new.self) (g.F.Folder.calls c.begin_journal.new.folder) (SyncsFile StoreBeside ∷ []) (beginning_calls c.args.head.now)
    c.in_ok-sync.ensures.done c.in_ok-begin_journal.ensures.done) c.in_err-sync-2.ensures.tried)

pub returns-in_err-sync_folder-clause-tried : goal.returns-in_err-sync_folder-clause-tried
returns-in_err-sync_folder-clause-tried g c =
    on-err c.from_residual-in_err-sync_folder.result
    (tries-at (g.F.Folder.calls c.args.folder.now) (g.F.Folder.calls c.sync-2.new.self) (g.F.Folder.calls c.sync_folder.new.self) (((SyncsFile StoreBeside ∷ []) ++ (beginning_calls c.args.head.now)) ++ (SyncsFile JournalBeside ∷ [])) (SyncsFolder ∷ []) (placing_calls)
    (does-then (g.F.Folder.calls c.args.folder.now) (g.F.Folder.calls c.begin_journal.new.folder) (g.F.Folder.calls c.sync-2.new.self) ((SyncsFile StoreBeside ∷ []) ++ (beginning_calls c.args.head.now)) (SyncsFile JournalBeside ∷ [])
    (does-then (g.F.Folder.calls c.args.folder.now) (g.F.Folder.calls c.sync.new.self) (g.F.Folder.calls c.begin_journal.new.folder) (SyncsFile StoreBeside ∷ []) (beginning_calls c.args.head.now)
    c.in_ok-sync.ensures.done c.in_ok-begin_journal.ensures.done) c.in_ok-sync-2.ensures.done) c.in_err-sync_folder.ensures.tried)

pub returns-clause-done : goal.returns-clause-done
returns-clause-done g c =
    on-ok-map c.place.result c.place.ensures.done
    (does-then (g.F.Folder.calls c.args.folder.now) (g.F.Folder.calls c.sync_folder.new.self) (g.F.Folder.calls c.place.new.folder) ((((SyncsFile StoreBeside ∷ []) ++ (beginning_calls c.args.head.now)) ++ (SyncsFile JournalBeside ∷ [])) ++ (SyncsFolder ∷ [])) (placing_calls)
    (does-then (g.F.Folder.calls c.args.folder.now) (g.F.Folder.calls c.sync-2.new.self) (g.F.Folder.calls c.sync_folder.new.self) (((SyncsFile StoreBeside ∷ []) ++ (beginning_calls c.args.head.now)) ++ (SyncsFile JournalBeside ∷ [])) (SyncsFolder ∷ [])
    (does-then (g.F.Folder.calls c.args.folder.now) (g.F.Folder.calls c.begin_journal.new.folder) (g.F.Folder.calls c.sync-2.new.self) ((SyncsFile StoreBeside ∷ []) ++ (beginning_calls c.args.head.now)) (SyncsFile JournalBeside ∷ [])
    (does-then (g.F.Folder.calls c.args.folder.now) (g.F.Folder.calls c.sync.new.self) (g.F.Folder.calls c.begin_journal.new.folder) (SyncsFile StoreBeside ∷ []) (beginning_calls c.args.head.now)
    c.in_ok-sync.ensures.done c.in_ok-begin_journal.ensures.done) c.in_ok-sync-2.ensures.done) c.in_ok-sync_folder.ensures.done))

pub returns-clause-tried : goal.returns-clause-tried
returns-clause-tried g c =
    on-err-map c.place.result c.place.ensures.tried
    (tries-then (g.F.Folder.calls c.args.folder.now) (g.F.Folder.calls c.sync_folder.new.self) (g.F.Folder.calls c.place.new.folder) ((((SyncsFile StoreBeside ∷ []) ++ (beginning_calls c.args.head.now)) ++ (SyncsFile JournalBeside ∷ [])) ++ (SyncsFolder ∷ [])) (placing_calls)
    (does-then (g.F.Folder.calls c.args.folder.now) (g.F.Folder.calls c.sync-2.new.self) (g.F.Folder.calls c.sync_folder.new.self) (((SyncsFile StoreBeside ∷ []) ++ (beginning_calls c.args.head.now)) ++ (SyncsFile JournalBeside ∷ [])) (SyncsFolder ∷ [])
    (does-then (g.F.Folder.calls c.args.folder.now) (g.F.Folder.calls c.begin_journal.new.folder) (g.F.Folder.calls c.sync-2.new.self) ((SyncsFile StoreBeside ∷ []) ++ (beginning_calls c.args.head.now)) (SyncsFile JournalBeside ∷ [])
    (does-then (g.F.Folder.calls c.args.folder.now) (g.F.Folder.calls c.sync.new.self) (g.F.Folder.calls c.begin_journal.new.folder) (SyncsFile StoreBeside ∷ []) (beginning_calls c.args.head.now)
    c.in_ok-sync.ensures.done c.in_ok-begin_journal.ensures.done) c.in_ok-sync-2.ensures.done) c.in_ok-sync_folder.ensures.done))
