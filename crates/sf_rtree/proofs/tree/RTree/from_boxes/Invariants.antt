use Rattle.std.proofs.Common.{◌≡◌, ◌<◌, ◌^◌, map, take}
use Rattle.std.specs.List.{AllByRecursion}
use Rattle.sf_rtree.proofs.Built.{boxed}
use Rattle.sf_rtree.proofs.tree.RTree.from_boxes.Given as goal

abbrev pub invariant-loop-entry : goal.invariant-loop-entry
invariant-loop-entry l = record {
  entries : l.entries.items ≡ map boxed (take l.entry-index l.entry-items);
  small : AllByRecursion (λ e. e.id < 2 ^ 32) l.entries.items;
}
