use Rattle.std.proofs.Common.{◌≡◌, ◌++◌, take}
use Rattle.std.specs.List.{flat_map}
use Rattle.sf_geometry.specs.Lists.{edges_of as edges_of_list}
use Rattle.sf_edge_tree.specs.Meeting.{ends_meeting}
use Rattle.sf_edge_tree.proofs.meeting.push_all_meeting.Given as goal

abbrev pub invariant-loop-points : goal.invariant-loop-points
invariant-loop-points l = l.found.items ≡ l.initial.found.items ++ flat_map (λ ps. ends_meeting l.extent (edges_of_list ps)) (take l.points-index l.lists)
