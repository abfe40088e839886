use Rattle.std.proofs.Common.{◌<◌, ◌^◌, length}
use Rattle.std.specs.List.{All}
use Rattle.sf_sweep.specs.Ready.{IsReady}
use Rattle.sf_sweep.proofs.RepairLaws.{RepairedSoFar}
use Rattle.sf_sweep.proofs.repair.repair.Given as goal

-- the edges above the rest were handed out and stored
abbrev pub invariant-loop-first : goal.invariant-loop-first
invariant-loop-first g l =
    record {
      so_far : RepairedSoFar l.areal l.groups l.contacts l.order (g.R.Row.bits l.above) l.fn.table l.table g.S.CellSink.after (g.S.CellSink.content l.fn.sink) (g.S.CellSink.content l.sink) (g.R.Row.bits l.odd) l.rest;
      grouped : All (λ e. e.piece < length l.groups) l.rest;
      few : length l.rest < 2 ^ 32;
      ready : IsReady g.R.Row.width l.areal l.groups l.table l.tallies;
    }

abbrev pub decreases-loop-first : goal.decreases-loop-first
decreases-loop-first g l = length l.rest
