use Rattle.std.proofs.Common.{◌≡◌}
use Rattle.sf_first_meeting.proofs.TableLaws.{numbered_upto}
use Rattle.sf_first_meeting.proofs.vertices.numbered.Given as goal

-- those so far
abbrev pub invariant-loop-number : goal.invariant-loop-number
invariant-loop-number l = l.found.items ≡ numbered_upto l.points l.number
