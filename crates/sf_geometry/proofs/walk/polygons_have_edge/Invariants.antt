use Rattle.std.proofs.Common.{◌↔◌, drop}
use Rattle.std.specs.List.{flat_map}
use Rattle.sf_geometry.specs.Lists.{edges_of}
use Rattle.sf_geometry.specs.Parts.{joined}
use Rattle.sf_geometry.specs.Walks.{HasEdge}
use Rattle.sf_geometry.proofs.walk.polygons_have_edge.Given as goal

-- what is left of the polygons decides
abbrev pub invariant-loop-rings : goal.invariant-loop-rings
invariant-loop-rings g l =
    HasEdge (g.T.EdgeTest.Passes l.test) (flat_map edges_of (joined l.polygons)) ↔ HasEdge (g.T.EdgeTest.Passes l.test) (flat_map edges_of (joined (drop l.rings-index l.polygons)))
