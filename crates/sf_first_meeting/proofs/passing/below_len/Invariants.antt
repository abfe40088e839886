use Rattle.std.proofs.Common.{◌-◌, ◌≤◌, length}
use Rattle.sf_first_meeting.proofs.passing.below_len.Given as goal

-- the place is between the two
abbrev pub invariant-loop-low : goal.invariant-loop-low
invariant-loop-low l = (l.low ≤ l.high) × (l.high ≤ length l.active)

abbrev pub decreases-loop-low : goal.decreases-loop-low
decreases-loop-low l = l.high - l.low
