use Rattle.std.proofs.Common.{◌≡◌, ◌+◌, ◌*◌, ◌≤◌, ◌++◌, drop}
use Rattle.sf_strips.specs.Vertices.{all_vertices}
use Rattle.sf_strips.proofs.vertex.push_all.Given as goal

-- the vertices of the pieces so far, and those of what is left
abbrev pub invariant-loop-piece : goal.invariant-loop-piece
invariant-loop-piece l =
    record {
      items : l.found.items ++ all_vertices l.number (drop l.piece-index l.pieces) ≡ l.fn.found.items ++ all_vertices 0 l.pieces;
      number : l.number ≡ l.piece-index;
      len : l.found.len ≤ l.fn.found.len + 2 * l.piece-index;
      capacity : l.found.cap ≡ l.fn.found.cap;
    }
