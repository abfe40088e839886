use Rattle.std.proofs.Common.{◌≡◌, length}
use Rattle.sf_edge_tree.specs.Near.{near, near_below}
use Rattle.sf_edge_tree.specs.Nodes.{AreNodes}
use Rattle.sf_edge_tree.proofs.near.has_any_near.Given as goal

-- none of the edges behind those that are left is near
abbrev pub invariant-loop-run : goal.invariant-loop-run
invariant-loop-run l = AreNodes l.edges l.left × (near_below l.edges l.extent l.left ≡ near l.extent l.edges)

abbrev pub decreases-loop-run : goal.decreases-loop-run
decreases-loop-run l = length l.left
