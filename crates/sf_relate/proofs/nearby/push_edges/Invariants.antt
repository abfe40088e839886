use Rattle.std.proofs.Common.{◌≡◌, ◌++◌, map, take}
use Rattle.sf_geometry.specs.Parts.{edge_of}
use Rattle.sf_pieces.specs.Marked.{marked, piece_of}
use Rattle.sf_relate.proofs.nearby.push_edges.Given as goal

abbrev pub invariant-loop-edge : goal.invariant-loop-edge
invariant-loop-edge l = l.pieces ≡ l.initial.pieces ++ marked 1 (map piece_of (map edge_of (take l.edge-index l.edges)))
