use Rattle.std.proofs.Common.{subst, sym}
use Rattle.sf_rtree.specs.Nodes.{Covers, IsNode, IsSized, levels_below}
use Rattle.std.specs.List.{AllByRecursion}
use Rattle.sf_rtree.proofs.Sizes.{all_covered, node-sized}
use Rattle.sf_rtree.proofs.node.Node.extent.Goals as goal

pub cover_branches-requires : goal.cover_branches-requires
cover_branches-requires c =
    let node = subst IsNode c.in-Inner.is c.self.invariant in
    subst (AllByRecursion (λ b. Covers b.extent b.node.entries)) (sym c.as_slice-in-Inner.ensures.value)
    (all_covered (levels_below c.in-Inner.branches.items) c.in-Inner.branches.items node.branches)

pub returns-in-Leaf-clause-sized : goal.returns-in-Leaf-clause-sized
returns-in-Leaf-clause-sized c = subst IsSized c.self.view_is (node-sized c.self.inside.members c.self.invariant)

pub returns-in-Inner-clause-sized : goal.returns-in-Inner-clause-sized
returns-in-Inner-clause-sized c = subst IsSized c.self.view_is (node-sized c.self.inside.members c.self.invariant)
