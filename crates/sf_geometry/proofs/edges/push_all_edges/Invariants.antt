use Rattle.std.proofs.Common.{◌≡◌, ◌++◌, take, map}
use Rattle.std.specs.List.{flat_map}
use Rattle.sf_geometry.specs.Lists.{edges_of as edges_of_list}
use Rattle.sf_geometry.specs.Parts.{edge_of}
use Rattle.sf_geometry.proofs.edges.push_all_edges.Given as goal

abbrev pub invariant-loop-points : goal.invariant-loop-points
invariant-loop-points l = map edge_of l.found.items ≡ map edge_of l.initial.found.items ++ flat_map edges_of_list (take l.points-index l.lists)
