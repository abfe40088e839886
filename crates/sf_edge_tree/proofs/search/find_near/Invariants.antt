use Rattle.std.proofs.Common.{length}
use Rattle.sf_edge_tree.proofs.SearchLaws.{IsLeft}
use Rattle.sf_edge_tree.proofs.search.find_near.Given as goal

abbrev pub invariant-loop-node : goal.invariant-loop-node
invariant-loop-node g l = IsLeft l.edges l.nodes l.left l.extent (g.T.EdgeTest.Passes l.test)

abbrev pub decreases-loop-node : goal.decreases-loop-node
decreases-loop-node g l = length l.left
