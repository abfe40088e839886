use Rattle.sf_first_meeting.specs.Tables.{IsSwept}
use Rattle.sf_first_meeting.proofs.sweep.sweep.Given as goal

-- the vertices so far are behind
abbrev pub invariant-loop-vertex : goal.invariant-loop-vertex
invariant-loop-vertex l = IsSwept l.points l.vertices l.active.items l.vertex-index
