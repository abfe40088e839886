use Rattle.std.proofs.Common.{◌≡◌, ◌++◌, take, map}
use Rattle.std.specs.List.{flat_map}
use Rattle.sf_geometry.specs.Lists.{edges_of as edges_of_list}
use Rattle.sf_geometry.specs.Parts.{edge_of}
use Rattle.sf_geometry.proofs.edges.push_polygons_edges.Given as goal

abbrev pub invariant-loop-rings : goal.invariant-loop-rings
invariant-loop-rings l = map edge_of l.found.items ≡ map edge_of l.initial.found.items ++ flat_map (λ rings. flat_map edges_of_list rings) (take l.rings-index l.polygons)
