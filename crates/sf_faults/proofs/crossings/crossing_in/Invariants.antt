use Rattle.sf_faults.proofs.CrossingLaws.{NoneMeets, NoneMeetsWith}
use Rattle.sf_faults.proofs.crossings.crossing_in.Given as goal

-- no two of the edges that were passed meet
abbrev pub invariant-loop-second : goal.invariant-loop-second
invariant-loop-second l = NoneMeets l.ring l.fn.points l.second

-- nor this one with an earlier one that was passed
abbrev pub invariant-loop-first : goal.invariant-loop-first
invariant-loop-first l = NoneMeetsWith l.ring l.fn.points l.second l.first
