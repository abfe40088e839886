use Rattle.std.proofs.Common.{arith, rules, ◌+◌, get_or, ◌∙◌}
use Rattle.std.proofs.lemmas.List.Sorted.{answers_always}
use Rattle.sf_rtree.specs.Curves.{key_of}
use Rattle.sf_rtree.proofs.Built.{AreUpward, all_boxed, in_order-upward, not_before, root_of_boxes}
use Rattle.sf_rtree.proofs.Roots.{IsRootOf}
use Rattle.sf_rtree.proofs.tree.RTree.from_boxes.Goals as goal
use Rattle.sf_rtree.proofs.tree.RTree.from_boxes.Goals.{After-sort_unstable_by_key, In_ok-build}

upward : (c : goal.After-sort_unstable_by_key) → AreUpward c.sort_unstable_by_key.new.self.items
upward c =
    let es = c.sort_unstable_by_key.new.self.items in
    λ k d h. not_before (key_of (get_or es (k + 1) d)) (key_of (get_or es k d))
    (c.sort_unstable_by_key.ensures.sorted key_of (answers_always _ _ _ (λ f a r f' k. search rules)) k d (omega arith) h)

pub build-requires : goal.build-requires
build-requires c = in_order-upward c.sort_unstable_by_key.new.self.items (upward c)

is_root : (c : goal.In_ok-build) → IsRootOf c.in_ok-build.field-0 c.args.boxes.items
is_root c =
    root_of_boxes c.in_ok-build.field-0 c.args.boxes.items c.loop-entry.entries.items c.sort_unstable_by_key.new.self.items c.requires
    (c.loop-entry.invariant.entries ∙ all_boxed c.loop-entry.entry-index c.as_slice-entry-items.result.now c.args.boxes.items c.loop-entry-test.false c.as_slice-entry-items.ensures.value)
    c.loop-entry.invariant.small c.sort_unstable_by_key.ensures.permutation (upward (goal.at.invariant_of-result c).After-sort_unstable_by_key) c.in_ok-build.ensures

pub invariant_of-result : goal.invariant_of-result
invariant_of-result c = (is_root c).root

pub returns : goal.returns
returns c = (is_root (goal.at.returns c).In_ok-build).boxes
