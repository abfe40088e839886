use Rattle.std.proofs.Common.{◌≡◌, ◌++◌, ◌∷◌, drop, map}
use Rattle.sf_geometry.specs.Lists.{edges_of as edges_of_list}
use Rattle.sf_geometry.specs.Parts.{edge_of}
use Rattle.sf_geometry.proofs.edges.push_edges.Given as goal

-- the edges of what is left, behind those that were found
abbrev pub invariant-loop-to : goal.invariant-loop-to
invariant-loop-to l =
    map edge_of l.found.items ++ edges_of_list (l.from ∷ drop l.to-index l.others)
    ≡ map edge_of l.initial.found.items ++ edges_of_list (l.initial.from ∷ l.others)
