use Rattle.std.proofs.Common.{◌≤◌, length}
use Rattle.sf_edge_tree.proofs.SearchLaws.{IsLeft}
use Rattle.sf_edge_tree.proofs.near.last_run_near.Given as goal

-- none of the edges behind those that are left is near
abbrev pub invariant-loop-node : goal.invariant-loop-node
invariant-loop-node l = IsLeft l.edges l.nodes l.left l.extent (λ edge. Unit {0}) × (length l.left ≤ length l.nodes)

abbrev pub decreases-loop-node : goal.decreases-loop-node
decreases-loop-node l = length l.left
