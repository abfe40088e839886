use Rattle.std.proofs.Common.{ℕ, ◌<◌}
use Rattle.sf_grid.specs.Plane.{IsOnGrid}
use Rattle.sf_first_meeting.specs.Numbered.{point_of}
use Rattle.sf_first_meeting.proofs.vertices.lie_on_grid.Given as goal

-- those so far are on the grid
abbrev pub invariant-loop-number : goal.invariant-loop-number
invariant-loop-number l = (i : ℕ) → i < l.number → IsOnGrid (point_of l.points i)
