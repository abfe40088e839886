use Rattle.std.proofs.Common.{◌≡◌, ◌++◌, length, reverse}
use Rattle.sf_edge_tree.specs.Near.{near}
use Rattle.sf_edge_tree.proofs.near.push_near.Given as goal

-- those that are near among what is left are still to be pushed
abbrev pub invariant-loop-edge : goal.invariant-loop-edge
invariant-loop-edge l = l.found.items ++ reverse (near l.extent l.left) ≡ l.fn.found.items ++ reverse (near l.extent l.run)

abbrev pub decreases-loop-edge : goal.decreases-loop-edge
decreases-loop-edge l = length l.left
