use Rattle.std.proofs.Common.{◌≡◌, ◌++◌, length, reverse}
use Rattle.sf_edge_tree.specs.Near.{near, near_below}
use Rattle.sf_edge_tree.specs.Nodes.{AreNodes}
use Rattle.sf_edge_tree.proofs.near.near.Given as goal

-- what was found, and what is near below the nodes that are left
abbrev pub invariant-loop-run : goal.invariant-loop-run
invariant-loop-run l = AreNodes l.edges l.left × (near_below l.edges l.extent l.left ++ reverse l.found.items ≡ near l.extent l.edges)

abbrev pub decreases-loop-run : goal.decreases-loop-run
decreases-loop-run l = length l.left
