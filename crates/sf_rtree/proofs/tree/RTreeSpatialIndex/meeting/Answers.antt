use Rattle.std.proofs.Common.{ap, ◌∙◌, ◌++◌}
use Rattle.sf_rtree.specs.Nodes.{ids_among}
use Rattle.sf_rtree.proofs.Found.{found_rising}
use Rattle.sf_rtree.proofs.tree.RTreeSpatialIndex.meeting.Goals as goal

pub returns : goal.returns
returns c =
    let root = c.self.inside.root in
    found_rising c.args.extent.now root.entries c.args.self.now c.collect.new.out.items c.sort_unstable.new.self.items c.self.invariant.distinct
    c.self.view_is (c.in_ok-collect.ensures ∙ ap (λ ids. ids ++ ids_among c.args.extent.now root.entries) c.new-ids.ensures.items)
    c.sort_unstable.ensures.permutation c.sort_unstable.ensures.sorted
