use Rattle.std.proofs.Common.{◌≡◌, take}
use Rattle.sf_cells.specs.Groups.{counts}
use Rattle.sf_cells.specs.Hands.{minus}
use Rattle.sf_strips.specs.Vertices.{leaves, pieces_with}
use Rattle.sf_cells.proofs.tally.take_leaving.Given as goal

-- the pieces of the vertices so far were taken off, where they leave
abbrev pub invariant-loop-vertex : goal.invariant-loop-vertex
invariant-loop-vertex l = l.tally ≡ minus l.fn.tally (counts l.groups (pieces_with leaves (take l.vertex-index l.vertices)))
