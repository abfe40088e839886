use Rattle.std.proofs.Common.{◌≡◌, drop, length}
use Rattle.sf_sweep.specs.Settled.{forgotten}
use Rattle.sf_sweep.proofs.settle.forget.Given as goal

-- what is left to forget gives the table in the end
abbrev pub invariant-loop-edge : goal.invariant-loop-edge
invariant-loop-edge l =
    record {
      table : forgotten l.meetings (drop l.edge-index l.edges) ≡ forgotten l.fn.meetings l.edges;
      len : length l.meetings ≡ length l.fn.meetings;
    }
