use Rattle.std.proofs.Common.{length}
use Rattle.sf_edge_tree.specs.Ranges.{IsEarlier}
use Rattle.sf_edge_tree.proofs.PairLaws.{IsLeftOf}
use Rattle.sf_edge_tree.proofs.pairs.find_pair.Given as goal

abbrev pub invariant-loop-node : goal.invariant-loop-node
invariant-loop-node g l = IsLeftOf l.edges l.edges l.nodes l.left IsEarlier (g.P.PairTest.Passes l.test)

abbrev pub decreases-loop-node : goal.decreases-loop-node
decreases-loop-node g l = length l.left
