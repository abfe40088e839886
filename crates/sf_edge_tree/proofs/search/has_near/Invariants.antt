use Rattle.sf_edge_tree.specs.Searches.{HasNear}
use Rattle.sf_edge_tree.proofs.search.has_near.Given as goal

-- no edge up to here passes
abbrev pub invariant-loop-edge : goal.invariant-loop-edge
invariant-loop-edge g l = ¬ (HasNear l.edges l.extent l.start l.edge (g.T.EdgeTest.Passes l.test))
