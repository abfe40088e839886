use Rattle.std.proofs.Common.{◌≡◌, ◌≤◌, ◌+◌, ◌*◌, ◌^◌, ◌∷◌, drop}
use Rattle.sf_geometry.specs.Lists.{edges_of}
use Rattle.sf_measure.specs.Lengths.{parts_of_edges}
use Rattle.sf_measure.proofs.length.of_list.Given as goal

-- the length so far, and that of what is left
abbrev pub invariant-loop-to : goal.invariant-loop-to
invariant-loop-to l = record {
  whole : l.parts + parts_of_edges (edges_of (l.from ∷ drop l.to-index l.others)) ≡ parts_of_edges (edges_of (l.initial.from ∷ l.others));
  small : l.parts ≤ l.to-index * 2 ^ 64;
}
