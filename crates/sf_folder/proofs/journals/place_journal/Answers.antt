use Rattle.std.proofs.Common.{◌∷◌, []}
use Rattle.sf_folder.specs.declared.names.Name.TheVariants.{Journal, JournalBeside}
use Rattle.sf_folder.specs.Calls.{Renames, SyncsFolder}
use Rattle.sf_folder.proofs.Chains.{on-err, on-err-map, on-ok-map, does-then, tries-first, tries-then}
use Rattle.sf_folder.proofs.journals.place_journal.Goals as goal

pub returns-in_err-rename-clause-tried : goal.returns-in_err-rename-clause-tried
returns-in_err-rename-clause-tried g c =
    on-err c.from_residual.result
    (tries-first (g.F.Folder.calls c.args.folder.now) (g.F.Folder.calls c.rename.new.self) (Renames JournalBeside Journal ∷ []) (SyncsFolder ∷ []) c.in_err-rename.ensures.tried)

pub returns-clause-done : goal.returns-clause-done
returns-clause-done g c =
    on-ok-map c.sync_folder.result c.sync_folder.ensures.done
    (does-then (g.F.Folder.calls c.args.folder.now) (g.F.Folder.calls c.rename.new.self) (g.F.Folder.calls c.sync_folder.new.self) (Renames JournalBeside Journal ∷ []) (SyncsFolder ∷ [])
    c.in_ok-rename.ensures.done)

pub returns-clause-tried : goal.returns-clause-tried
returns-clause-tried g c =
    on-err-map c.sync_folder.result c.sync_folder.ensures.tried
    (tries-then (g.F.Folder.calls c.args.folder.now) (g.F.Folder.calls c.rename.new.self) (g.F.Folder.calls c.sync_folder.new.self) (Renames JournalBeside Journal ∷ []) (SyncsFolder ∷ [])
    c.in_ok-rename.ensures.done)
