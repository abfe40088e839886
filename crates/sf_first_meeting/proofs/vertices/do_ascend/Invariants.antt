use Rattle.std.proofs.Common.{◌≡◌, ℕ, ◌+◌, ◌<◌, true, get_or}
use Rattle.sf_grid.specs.Sharing.{comes_before}
use Rattle.sf_first_meeting.specs.declared.vertices.Vertex.{Vertex}
use Rattle.sf_first_meeting.proofs.vertices.do_ascend.Given as goal

-- each so far comes before the next one
abbrev pub invariant-loop-next : goal.invariant-loop-next
invariant-loop-next l = (k : ℕ) (d : Vertex) → k + 1 < l.next → comes_before (get_or l.vertices k d).at (get_or l.vertices (k + 1) d).at ≡ true
