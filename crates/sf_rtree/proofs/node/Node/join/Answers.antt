use Rattle.std.proofs.Common.{◌++◌, ◌+◌, length, arith, ap, ◌∙◌, sym, subst}
use Rattle.sf_rtree.specs.Nodes.{IsNode, entries_below, levels_below, subtree_of}
use Rattle.sf_rtree.proofs.Meeting.{entries_below-append}
use Rattle.std.proofs.lemmas.List.{length-append}
use Rattle.sf_rtree.proofs.Changes.{both_order, grown-weaker, levels-append}
use Rattle.sf_rtree.proofs.node.Node.join.Goals as goal

pub split_inner-requires-clause-in_order : goal.split_inner-requires-clause-in_order
split_inner-requires-clause-in_order c =
    both_order c.in-Inner-Inner.branches.items c.in-Inner-Inner.more.items c.append-in-Inner-Inner.new.self.items c.args.self.entries c.args.right.entries c.in_ok-append-in-Inner-Inner.ensures.items
    (ap (λ s. s.entries) (sym c.self.view_is ∙ ap subtree_of c.in-Inner-Inner.is-0)) (ap (λ s. s.entries) (sym c.right.view_is ∙ ap subtree_of c.in-Inner-Inner.is-1)) c.requires.in_order

pub returns-in_ok-append-in-Inner-Inner : goal.returns-in_ok-append-in-Inner-Inner
returns-in_ok-append-in-Inner-Inner c =
    let bs = c.in-Inner-Inner.branches.items in
    let cs = c.in-Inner-Inner.more.items in
    let is = c.in_ok-append-in-Inner-Inner.ensures.items in
    let v = sym c.self.view_is ∙ ap subtree_of c.in-Inner-Inner.is-0 in
    let w = sym c.right.view_is ∙ ap subtree_of c.in-Inner-Inner.is-1 in
    let node = subst IsNode c.in-Inner-Inner.is-0 c.self.invariant in
    grown-weaker _ _ _ _ _ _ c.split_inner.result
    (ap (λ xs. levels_below xs + 1) is ∙ ap (λ k. k + 1) (levels-append bs cs (omega (arith, node.enough))) ∙ sym (ap (λ s. s.levels) v))
    (omega (arith, ap length is, length-append bs cs, ap (λ s. s.members) v, ap (λ s. s.members) w))
    (ap entries_below is ∙ entries_below-append bs cs ∙ sym (ap (λ s. s.entries ++ c.args.right.entries) v ∙ ap (λ s. entries_below bs ++ s.entries) w))
    c.split_inner.ensures
