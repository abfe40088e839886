use Rattle.sf_console.specs.Outlets.{StaysLeft}
use Rattle.sf_console.proofs.Progress.{Progress}
use Rattle.sf_console.proofs.serving.serve.Given as goal

-- so much was read and answered so far, and the answers have left
abbrev pub invariant-loop : goal.invariant-loop
invariant-loop g l = Progress (g.R.Read.remaining l.fn.reader) (g.R.Read.remaining l.reader) l.buffer l.group (g.W.Write.contents l.fn.writer) (g.W.Write.contents l.writer) l.fn.editor l.editor
    × StaysLeft (g.W.Outlet.left l.fn.writer) (g.W.Write.contents l.fn.writer) (g.W.Outlet.left l.writer) (g.W.Write.contents l.writer)
