use Rattle.std.proofs.Common.{◌↔◌, ◌∷◌, drop}
use Rattle.sf_geometry.specs.Lists.{edges_of}
use Rattle.sf_geometry.specs.Walks.{HasEdge}
use Rattle.sf_geometry.proofs.walk.has_edge.Given as goal

-- what is left of the line decides
abbrev pub invariant-loop-to : goal.invariant-loop-to
invariant-loop-to g l =
    HasEdge (g.T.EdgeTest.Passes l.test) (edges_of (l.initial.from ∷ l.others)) ↔ HasEdge (g.T.EdgeTest.Passes l.test) (edges_of (l.from ∷ drop l.to-index l.others))
