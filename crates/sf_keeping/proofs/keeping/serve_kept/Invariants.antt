use Rattle.std.proofs.Common.{◌≡◌}
use Rattle.sf_keeping.specs.Underway.{KeepsOn}
use Rattle.sf_keeping.specs.Waiting.{nothing_waits}
use Rattle.sf_keeping.proofs.keeping.serve_kept.Given as goal

-- the lines that were read were carried out, kept and answered
abbrev pub invariant-loop : goal.invariant-loop
invariant-loop g l =
    KeepsOn (g.R.Read.remaining l.fn.reader) (g.R.Read.remaining l.reader) l.fn.input.rest l.group (g.D.Folder.calls l.fn.desk) (g.D.Folder.calls l.desk) l.fn.sum l.fn.editor l.input l.pending l.editor
    × (l.pending ≡ nothing_waits l.pending.sum)
