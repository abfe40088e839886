use Rattle.std.proofs.Common.{◌≡◌, ◌+◌, ◌≤◌, ◌++◌, drop, length, List}
use Rattle.sf_strips.specs.declared.active.Active.{Active}
use Rattle.sf_strips.specs.Levels.{AreStarts, HasStarts}
use Rattle.sf_strips.specs.Vertices.{begins, pieces_with}
use Rattle.sf_strips.proofs.onward.push_starts.Given as goal

-- the edges that begin at the vertices so far, whatever begins at those that are left
abbrev pub invariant-loop-vertex : goal.invariant-loop-vertex
invariant-loop-vertex l =
    record {
      starts : (later : List Active) → AreStarts (drop l.vertex-index l.vertices) later → HasStarts l.vertices l.fn.found.items (l.found.items ++ later);
      len : l.found.len + length (pieces_with begins (drop l.vertex-index l.vertices)) ≤ l.fn.found.len + length (pieces_with begins l.vertices);
      capacity : l.found.cap ≡ l.fn.found.cap;
    }
