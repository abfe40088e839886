use Rattle.std.proofs.Common.{drop, map}
use Rattle.sf_geometry.specs.Parts.{edge_of}
use Rattle.sf_prepared.specs.Places.{AreClear}
use Rattle.sf_prepared.proofs.beside.all_miss.Given as goal

-- where those that are left miss the box, all do
abbrev pub invariant-loop-edge : goal.invariant-loop-edge
invariant-loop-edge l = AreClear l.extent (map edge_of (drop l.edge-index l.edges)) → AreClear l.extent (map edge_of l.edges)
