use Rattle.std.proofs.Common.{ℕ, ◌≤◌, ◌<◌, IsTrue}
use Rattle.sf_edge_tree.specs.Boxes.{covers, extent_at_edge}
use Rattle.sf_edge_tree.proofs.nodes.extent_of.Given as goal

abbrev pub invariant-loop-edge : goal.invariant-loop-edge
invariant-loop-edge l = (i : ℕ) → l.start ≤ i → i < l.edge → IsTrue (covers l.extent (extent_at_edge l.edges i))
