use Rattle.sf_folder.proofs.Chains.{on-err}
use Rattle.sf_folder.proofs.WritingLemmas.{tries-writing-to-save, tries-finishing-to-save, does-save}
use Rattle.sf_folder.proofs.saving.save.Goals as goal

pub returns-in_err-file-clause-tried : goal.returns-in_err-file-clause-tried
returns-in_err-file-clause-tried g c =
    on-err c.from_residual-in_err-file.result
    (tries-writing-to-save (g.F.Folder.calls c.args.folder.now) (g.F.Folder.calls c.begin.new.self) (g.F.Folder.calls c.write_beside.new.folder) (g.S.Source.bytes c.args.source.now)
    c.in_ok-begin.ensures.done c.in_err-file.ensures.tried)

pub returns-in_err-finish-clause-tried : goal.returns-in_err-finish-clause-tried
returns-in_err-finish-clause-tried g c =
    on-err c.from_residual-in_err-finish.result
    (tries-finishing-to-save (g.F.Folder.calls c.args.folder.now) (g.F.Folder.calls c.begin.new.self) (g.F.Folder.calls c.write_beside.new.folder) (g.F.Folder.calls c.finish.new.folder)
    (g.S.Source.bytes c.args.source.now) c.in_ok-file.file.size c.in_ok-file.file.digest c.in_ok-begin.ensures.done c.in_ok-file.ensures.done c.in_err-finish.ensures.tried)

pub returns-clause-done : goal.returns-clause-done
returns-clause-done g c =
    does-save (g.F.Folder.calls c.args.folder.now) (g.F.Folder.calls c.begin.new.self) (g.F.Folder.calls c.write_beside.new.folder) (g.F.Folder.calls c.finish.new.folder)
    (g.S.Source.bytes c.args.source.now) c.in_ok-file.file.size c.in_ok-file.file.digest c.in_ok-begin.ensures.done c.in_ok-file.ensures.done c.in_ok-finish.ensures.done
