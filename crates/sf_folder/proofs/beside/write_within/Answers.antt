use Rattle.std.proofs.Common.{subst}
use Rattle.sf_folder.specs.Besides.{TriesToWrite}
use Rattle.sf_folder.proofs.Chains.{on-err}
use Rattle.sf_folder.proofs.WritingLemmas.{tries-to-write, finished}
use Rattle.sf_folder.proofs.beside.write_within.Goals as goal

pub returns-clause-done : goal.returns-clause-done
returns-clause-done g c =
    let writer = c.write_to-written.new.writer in
    finished g.B.Before.known (g.F.Folder.calls c.args.folder.now) (g.F.Folder.calls writer.folder.now) (g.S.Source.bytes c.args.source.now) writer.hasher writer.size writer.failed
    c.sum_of-sum.result c.write_to-written.result c.requires.known c.write_to-written.ensures writer.continues c.sum_of-sum.ensures

pub returns-clause-tried : goal.returns-clause-tried
returns-clause-tried g c =
    let writer = c.write_to-written.new.writer in
    on-err c.sum_of-sum.result
    (subst (λ k. TriesToWrite k (g.F.Folder.calls writer.folder.now)) c.requires.known
    (tries-to-write g.B.Before.known (g.F.Folder.calls writer.folder.now) writer.hasher writer.size writer.failed writer.continues))
