use Rattle.std.proofs.Common.{◌-◌, arith, ap, ◌∙◌, sym, subst}
use Rattle.sf_rtree.specs.Curves.{IsLast}
use Rattle.sf_rtree.specs.Nodes.{IsNode, subtree_of, levels_below}
use Rattle.sf_rtree.proofs.Sizes.{last_below, last_entry}
use Rattle.sf_rtree.proofs.node.Node.last.Goals as goal

pub returns-in-Leaf : goal.returns-in-Leaf
returns-in-Leaf c =
    let v = ap (λ s. s.entries) (sym c.self.view_is ∙ ap subtree_of c.in-Leaf.is) in
    let m = ap (λ s. s.members) (sym c.self.view_is ∙ ap subtree_of c.in-Leaf.is) in
    subst (IsLast c.key.result) (sym v)
    (subst (λ k. IsLast k c.in-Leaf.entries.items) (sym c.key.ensures)
    (last_entry c.in-Leaf.entries.items (c.len.result - 1) c.index.result.now (omega arith) c.index.ensures))

pub returns-in-Inner : goal.returns-in-Inner
returns-in-Inner c =
    let v = ap (λ s. s.entries) (sym c.self.view_is ∙ ap subtree_of c.in-Inner.is) in
    let node = subst IsNode c.in-Inner.is c.self.invariant in
    subst (IsLast c.index-in-Inner.result.now.last) (sym v)
    (last_below (levels_below c.in-Inner.branches.items) c.in-Inner.branches.items (c.len-in-Inner.result - 1) c.index-in-Inner.result.now
    node.branches (omega arith) c.index-in-Inner.ensures)
