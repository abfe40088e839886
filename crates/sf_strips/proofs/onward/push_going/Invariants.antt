use Rattle.std.proofs.Common.{◌≡◌, ◌+◌, ◌≤◌, ◌++◌, drop}
use Rattle.sf_strips.specs.Levels.{going_past}
use Rattle.sf_strips.proofs.onward.push_going.Given as goal

-- the edges that go on so far, and those of what is left
abbrev pub invariant-loop-edge : goal.invariant-loop-edge
invariant-loop-edge l =
    record {
      items : l.found.items ++ going_past l.vertices (drop l.edge-index l.edges) ≡ l.fn.found.items ++ going_past l.vertices l.edges;
      len : l.found.len ≤ l.fn.found.len + l.edge-index;
      capacity : l.found.cap ≡ l.fn.found.cap;
    }
