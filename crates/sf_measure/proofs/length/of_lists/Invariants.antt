use Rattle.std.proofs.Common.{◌≡◌, ◌≤◌, ◌+◌, ◌*◌, ◌^◌, drop, length}
use Rattle.std.specs.List.{flat_map}
use Rattle.sf_geometry.specs.Lists.{edges_of}
use Rattle.sf_geometry.specs.Parts.{joined}
use Rattle.sf_measure.specs.Lengths.{parts_of_edges}
use Rattle.sf_measure.proofs.length.of_lists.Given as goal

-- the length so far, that of what is left, and how large both may become
abbrev pub invariant-loop-points : goal.invariant-loop-points
invariant-loop-points l = record {
  whole : l.parts + parts_of_edges (flat_map edges_of (drop l.points-index l.lists)) ≡ parts_of_edges (flat_map edges_of l.lists);
  small : l.parts + 2 ^ 64 * length (joined (drop l.points-index l.lists)) ≤ 2 ^ 64 * length (joined l.lists);
}
