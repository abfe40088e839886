use Rattle.std.proofs.Common.{◌≡◌, take}
use Rattle.sf_cells.specs.Groups.{counts}
use Rattle.sf_cells.specs.Hands.{plus}
use Rattle.sf_strips.specs.Vertices.{enters, pieces_with}
use Rattle.sf_cells.proofs.tally.add_entering.Given as goal

-- the pieces of the vertices so far were added, where they enter
abbrev pub invariant-loop-vertex : goal.invariant-loop-vertex
invariant-loop-vertex l = l.tally ≡ plus l.fn.tally (counts l.groups (pieces_with enters (take l.vertex-index l.vertices)))
