use Rattle.sf_faults.proofs.OverlapLaws.{NoTwo, NoneOverlaps}
use Rattle.sf_faults.proofs.overlapping.first_overlapping.Given as goal

-- no two of the areas that were passed have an inner point in common
abbrev pub invariant-loop-second : goal.invariant-loop-second
invariant-loop-second l = NoTwo l.areas l.second

-- nor this one with an earlier one that was passed
abbrev pub invariant-loop-first : goal.invariant-loop-first
invariant-loop-first l = NoneOverlaps l.areas l.second l.first
