use Rattle.std.proofs.Common.{◌∷◌, [], ◌++◌}
use Rattle.sf_folder.specs.declared.names.Name.TheVariants.{Store, StoreBeside}
use Rattle.sf_folder.specs.Calls.{Renames, SyncsFolder}
use Rattle.sf_folder.specs.Saves.{journal_calls}
use Rattle.sf_folder.proofs.Chains.{on-err, on-err-map, on-ok-map, does-then, tries-first, tries-then, tries-at}
use Rattle.sf_folder.proofs.saving.place.Goals as goal

pub returns-in_err-rename-clause-tried : goal.returns-in_err-rename-clause-tried
returns-in_err-rename-clause-tried g c =
    on-err c.from_residual.result
    (tries-first (g.F.Folder.calls c.args.folder.now) (g.F.Folder.calls c.rename.new.self) (Renames StoreBeside Store ∷ []) ((SyncsFolder ∷ []) ++ (journal_calls)) c.in_err-rename.ensures.tried)

pub returns-in_err-sync_folder-clause-tried : goal.returns-in_err-sync_folder-clause-tried
returns-in_err-sync_folder-clause-tried g c =
    on-err c.from_residual-in_err-sync_folder.result
    (tries-at (g.F.Folder.calls c.args.folder.now) (g.F.Folder.calls c.rename.new.self) (g.F.Folder.calls c.sync_folder.new.self) (Renames StoreBeside Store ∷ []) (SyncsFolder ∷ []) (journal_calls)
    c.in_ok-rename.ensures.done c.in_err-sync_folder.ensures.tried)

pub returns-clause-done : goal.returns-clause-done
returns-clause-done g c =
    on-ok-map c.place_journal.result c.place_journal.ensures.done
    (does-then (g.F.Folder.calls c.args.folder.now) (g.F.Folder.calls c.sync_folder.new.self) (g.F.Folder.calls c.place_journal.new.folder) ((Renames StoreBeside Store ∷ []) ++ (SyncsFolder ∷ [])) (journal_calls)
    (does-then (g.F.Folder.calls c.args.folder.now) (g.F.Folder.calls c.rename.new.self) (g.F.Folder.calls c.sync_folder.new.self) (Renames StoreBeside Store ∷ []) (SyncsFolder ∷ [])
    c.in_ok-rename.ensures.done c.in_ok-sync_folder.ensures.done))

pub returns-clause-tried : goal.returns-clause-tried
returns-clause-tried g c =
    on-err-map c.place_journal.result c.place_journal.ensures.tried
    (tries-then (g.F.Folder.calls c.args.folder.now) (g.F.Folder.calls c.sync_folder.new.self) (g.F.Folder.calls c.place_journal.new.folder) ((Renames StoreBeside Store ∷ []) ++ (SyncsFolder ∷ [])) (journal_calls)
    (does-then (g.F.Folder.calls c.args.folder.now) (g.F.Folder.calls c.rename.new.self) (g.F.Folder.calls c.sync_folder.new.self) (Renames StoreBeside Store ∷ []) (SyncsFolder ∷ [])
    c.in_ok-rename.ensures.done c.in_ok-sync_folder.ensures.done))
