use Rattle.std.proofs.Common.{◌≡◌, ◌++◌, ◌-◌, suc, take, drop, arith, subst}
use Rattle.sf_rtree.specs.Curves.{AreInOrder}
use Rattle.sf_rtree.specs.Nodes.{entries_below}
use Rattle.sf_rtree.proofs.Changes.{left-joined, left_neighbour, on_ok, right_neighbour}
use Rattle.sf_rtree.proofs.node.put_joined.Goals as goal

pub join-requires-clause-in_order : goal.join-requires-clause-in_order
join-requires-clause-in_order c =
    right_neighbour c.args.branches.now.items c.args.place c.remove-right.result c.args.node.entries (omega arith) c.remove-right.ensures.value
    c.requires.in_order

pub join-requires-2-clause-in_order : goal.join-requires-2-clause-in_order
join-requires-2-clause-in_order c =
    let e : c.args.place ≡ suc (c.args.place - 1) = omega arith in
    left_neighbour c.args.branches.now.items (c.args.place - 1) c.remove-left.result c.args.node.entries (omega arith) c.remove-left.ensures.value
    (subst (λ k. AreInOrder (entries_below (take k c.args.branches.now.items) ++ c.args.node.entries ++ entries_below (drop k c.args.branches.now.items))) e
    c.requires.in_order)

pub returns-clause-entries : goal.returns-clause-entries
returns-clause-entries c =
    let e : suc (c.args.place - 1) ≡ c.args.place = omega arith in
    on_ok _ _ c.put_nodes-2.result
    (λ now. subst (λ k. entries_below c.put_nodes-2.new.branches.items
    ≡ entries_below (take k c.args.branches.now.items) ++ c.args.node.entries ++ entries_below (drop k c.args.branches.now.items)) e
    (left-joined c.args.branches.now.items c.remove-left.new.self.items c.put_nodes-2.new.branches.items (c.args.place - 1) c.remove-left.result
    c.args.node.entries _ (omega arith) c.remove-left.ensures.value c.remove-left.ensures.items c.in_ok-grown-2.ensures.entries now))
    c.put_nodes-2.ensures.entries
