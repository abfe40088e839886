use Rattle.std.proofs.Common.{◌+◌, length}
use Rattle.std.specs.List.{AllByRecursion}
use Rattle.sf_rtree.specs.Nodes.{IsBranch, entries_below, levels_below}
use Rattle.sf_rtree.proofs.Levels.{IsCut}
use Rattle.sf_rtree.proofs.build.level_above.Given as goal

abbrev pub invariant-loop-parts : goal.invariant-loop-parts
invariant-loop-parts l = record {
  cut : IsCut (levels_below l.fn.branches.items + 1) (entries_below l.fn.branches.items) (entries_below l.branches.items)
      (length l.branches.items) l.above.items l.parts l.initial.parts;
  below : AllByRecursion (IsBranch (levels_below l.fn.branches.items)) l.branches.items;
}

abbrev pub decreases-loop-parts : goal.decreases-loop-parts
decreases-loop-parts l = l.parts
