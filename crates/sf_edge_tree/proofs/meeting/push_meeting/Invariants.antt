use Rattle.std.proofs.Common.{◌≡◌, ◌++◌, ◌∷◌, drop}
use Rattle.sf_geometry.specs.Lists.{edges_of as edges_of_list}
use Rattle.sf_edge_tree.specs.Meeting.{ends_meeting}
use Rattle.sf_edge_tree.proofs.meeting.push_meeting.Given as goal

-- those of what is left, behind those that were found
abbrev pub invariant-loop-to : goal.invariant-loop-to
invariant-loop-to l =
    l.found.items ++ ends_meeting l.extent (edges_of_list (l.from ∷ drop l.to-index l.others))
    ≡ l.initial.found.items ++ ends_meeting l.extent (edges_of_list (l.initial.from ∷ l.others))
