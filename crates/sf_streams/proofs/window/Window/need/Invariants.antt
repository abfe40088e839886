use Rattle.std.proofs.Common.{◌-◌, length}
use Rattle.sf_streams.specs.Streams.{ReadsAhead}
use Rattle.sf_streams.proofs.window.Window.need.Given as goal

-- some bytes were read ahead so far
abbrev pub invariant-loop-self : goal.invariant-loop-self
invariant-loop-self g l = ReadsAhead (g.R.Read.remaining l.fn.reader) (g.R.Read.remaining l.reader) l.fn.self l.self

abbrev pub decreases-loop-self : goal.decreases-loop-self
decreases-loop-self g l = l.count - length l.self.bytes
