use Rattle.std.proofs.Common.{◌≡◌, ◌++◌, take}
use Rattle.std.specs.List.{flat_map}
use Rattle.sf_geometry.specs.Lists.{ends_of as ends_of_line}
use Rattle.sf_geometry.proofs.edges.push_all_ends.Given as goal

abbrev pub invariant-loop-points : goal.invariant-loop-points
invariant-loop-points l = l.found.items ≡ l.initial.found.items ++ flat_map ends_of_line (take l.points-index l.lines)
