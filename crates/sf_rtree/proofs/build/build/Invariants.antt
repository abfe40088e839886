use Rattle.std.proofs.Common.{length}
use Rattle.sf_rtree.specs.Levels.{IsLevel}
use Rattle.sf_rtree.proofs.build.build.Given as goal

abbrev pub invariant-loop-alloc : goal.invariant-loop-alloc
invariant-loop-alloc l = IsLevel l.fn.entries.items l.branches.items

abbrev pub decreases-loop-alloc : goal.decreases-loop-alloc
decreases-loop-alloc l = length l.branches.items
