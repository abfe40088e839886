use Rattle.std.proofs.Common.{◌≡◌, ◌-◌, ◌≤◌, length}
use Rattle.sf_edge_tree.specs.Nodes.{AreNodes, end_of}
use Rattle.sf_edge_tree.proofs.nodes.nodes_of.Given as goal

-- the nodes of the first edges
abbrev pub invariant-loop-start : goal.invariant-loop-start
invariant-loop-start l = AreNodes l.edges l.nodes.items × (end_of l.nodes.items ≡ l.start) × (l.start ≤ length l.edges)

abbrev pub decreases-loop-start : goal.decreases-loop-start
decreases-loop-start l = length l.edges - l.start
