use Rattle.std.proofs.Common.{◌≡◌, ◌≤◌, ◌+◌, ◌*◌, ◌^◌, drop, length}
use Rattle.std.specs.List.{flat_map}
use Rattle.sf_geometry.specs.Lists.{edges_of}
use Rattle.sf_geometry.specs.Parts.{joined}
use Rattle.sf_measure.specs.Lengths.{parts_of_edges}
use Rattle.sf_measure.proofs.length.of_polygons.Given as goal

-- the length so far, that of what is left, and how large both may become
abbrev pub invariant-loop-rings : goal.invariant-loop-rings
invariant-loop-rings l = record {
  whole : l.parts + parts_of_edges (flat_map edges_of (joined (drop l.rings-index l.polygons))) ≡ parts_of_edges (flat_map edges_of (joined l.polygons));
  small : l.parts + 2 ^ 64 * length (joined (joined (drop l.rings-index l.polygons))) ≤ 2 ^ 64 * length (joined (joined l.polygons));
}
