use Rattle.std.proofs.Common.{◌≡◌, drop, length}
use Rattle.sf_sweep.specs.Settled.{joined}
use Rattle.sf_sweep.proofs.settle.join.Given as goal

-- what is left to put down gives the table in the end
abbrev pub invariant-loop-edge : goal.invariant-loop-edge
invariant-loop-edge l =
    record {
      table : joined l.meetings (drop (length l.yielded) l.edges) (drop (length l.yielded) l.contacts) ≡ joined l.fn.meetings l.edges l.contacts;
      len : length l.meetings ≡ length l.fn.meetings;
    }
