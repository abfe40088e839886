use Rattle.std.proofs.Common.{◌≡◌, List}
use Rattle.sf_grid.specs.Plane.{Coordinates}
use Rattle.sf_edge_tree.specs.Nodes.{AreNodes, end_of}
use Rattle.sf_edge_tree.proofs.nodes.push_over.Given as goal

abbrev pub invariant-loop : goal.invariant-loop
invariant-loop l =
    (edges : List (Coordinates × Coordinates)) → AreNodes edges l.initial.nodes.items → AreNodes edges l.nodes.items × (end_of l.nodes.items ≡ end_of l.initial.nodes.items)
