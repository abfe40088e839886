use Rattle.std.proofs.Common.{length}
use Rattle.sf_rtree.proofs.Levels.{IsCut}
use Rattle.sf_rtree.proofs.build.leaves.Given as goal

abbrev pub invariant-loop-parts : goal.invariant-loop-parts
invariant-loop-parts l =
    IsCut 1 l.fn.entries.items l.entries.items (length l.entries.items) l.leaves.items l.parts l.initial.parts

abbrev pub decreases-loop-parts : goal.decreases-loop-parts
decreases-loop-parts l = l.parts
