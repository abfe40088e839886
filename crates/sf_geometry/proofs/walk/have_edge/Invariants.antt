use Rattle.std.proofs.Common.{◌↔◌, drop}
use Rattle.std.specs.List.{flat_map}
use Rattle.sf_geometry.specs.Lists.{edges_of}
use Rattle.sf_geometry.specs.Walks.{HasEdge}
use Rattle.sf_geometry.proofs.walk.have_edge.Given as goal

-- what is left of the lists decides
abbrev pub invariant-loop-points : goal.invariant-loop-points
invariant-loop-points g l =
    HasEdge (g.T.EdgeTest.Passes l.test) (flat_map edges_of l.lists) ↔ HasEdge (g.T.EdgeTest.Passes l.test) (flat_map edges_of (drop l.points-index l.lists))
