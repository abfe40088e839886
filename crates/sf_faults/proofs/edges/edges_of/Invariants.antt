use Rattle.std.proofs.Common.{◌≡◌, ◌++◌, drop, map}
use Rattle.sf_faults.specs.Orders.{written_edges}
use Rattle.sf_faults.specs.Written.{written}
use Rattle.sf_faults.proofs.WrittenLaws.{written_from}
use Rattle.sf_faults.proofs.edges.edges_of.Given as goal

-- the edges of what is left, behind those that were found
abbrev pub invariant-loop-number : goal.invariant-loop-number
invariant-loop-number l =
    map written l.edges.items ++ written_from l.number l.from (drop l.number l.others) ≡ written_edges l.fn.points
