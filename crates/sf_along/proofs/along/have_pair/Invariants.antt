use Rattle.std.proofs.Common.{length}
use Rattle.sf_along.specs.Runs.{AreInOrder, HavePair}
use Rattle.sf_along.proofs.ScanLaws.{IsLeft}
use Rattle.sf_along.proofs.along.have_pair.Given as goal

abbrev pub decreases-loop-run : goal.decreases-loop-run
decreases-loop-run l = length l.left

-- what is left of the runs decides
abbrev pub invariant-loop-run : goal.invariant-loop-run
invariant-loop-run l = record {
  order : AreInOrder l.left;
  left : IsLeft HavePair l.fn.runs l.left;
}
