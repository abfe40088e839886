use Rattle.std.proofs.Common.{length}
use Rattle.sf_strips.specs.Strips.{is_column}
use Rattle.sf_cells.proofs.AloneSteps.{AloneSoFar}
use Rattle.sf_cells.proofs.column.hand_alone.Given as goal

-- the edges so far were handed out
abbrev pub invariant-loop-edge : goal.invariant-loop-edge
invariant-loop-edge g l =
    AloneSoFar g.S.CellSink.after l.groups (is_column l.strip) l.edges l.onward (g.S.CellSink.content l.fn.sink) l.fn.tallies.on.items l.fn.tallies.above.items
    (length l.yielded) (g.S.CellSink.content l.sink) l.tallies.on.items l.tallies.above.items
