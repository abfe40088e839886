use Rattle.std.proofs.Common.{◌≡◌, ◌++◌, take}
use Rattle.std.specs.List.{flat_map}
use Rattle.sf_geometry.specs.Lists.{edges_of as edges_of_list}
use Rattle.sf_edge_tree.specs.Meeting.{ends_meeting}
use Rattle.sf_edge_tree.proofs.meeting.push_polygons_meeting.Given as goal

abbrev pub invariant-loop-rings : goal.invariant-loop-rings
invariant-loop-rings l =
    l.found.items ≡ l.initial.found.items ++ flat_map (λ rings. ends_meeting l.extent (flat_map edges_of_list rings)) (take l.rings-index l.polygons)
