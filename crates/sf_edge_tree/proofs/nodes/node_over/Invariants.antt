use Rattle.std.proofs.Common.{List}
use Rattle.sf_grid.specs.Plane.{Coordinates}
use Rattle.sf_edge_tree.specs.Nodes.{AreNodes, IsOver}
use Rattle.sf_edge_tree.proofs.nodes.node_over.Given as goal

abbrev pub invariant-loop : goal.invariant-loop
invariant-loop l = (edges : List (Coordinates × Coordinates)) → AreNodes edges l.nodes → IsOver edges l.nodes l.node
