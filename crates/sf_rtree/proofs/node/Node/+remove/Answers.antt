use Rattle.std.proofs.Common.{◌≡◌, ◌++◌, length, take, drop, ap, ◌∙◌, sym, subst}
use Rattle.std.specs.Prelude.{ℕ, ◌<◌, List, MatchOption}
use Rattle.std.specs.List.{remove}
use Rattle.sf_rtree.specs.declared.node.Branch.{Branch}
use Rattle.sf_rtree.specs.Curves.{AreInOrder, taken}
use Rattle.sf_rtree.specs.Nodes.{IsNode, IsPlace, entries_below, subtree_of}
use Rattle.sf_rtree.proofs.Order.{in_order-taken, taken_goes}
use Rattle.sf_rtree.proofs.Changes.{IsTaken, is_taken, leaf-taken, rest-change}
use Rattle.sf_rtree.proofs.node.Node.+remove.Goals as goal
use Rattle.sf_rtree.proofs.node.Node.+remove.Goals.{In_ok-node-in-Inner}

-- the branches without the one that was taken
abbrev others : {t : ℕ} → In_ok-node-in-Inner t → List Branch
others c = remove c.take_branch-node.new.branches.items c.branch_place-place.result

here : {t : ℕ} (c : In_ok-node-in-Inner t) → IsPlace c.args.key c.in-Inner.branches.items c.branch_place-place.result
here c =
    subst (λ bs. IsPlace c.args.key bs c.branch_place-place.result) (c.as_slice-in-Inner.ensures.value ∙ ap (λ v. v.items) c.in-Inner.branches-is)
    c.branch_place-place.ensures

out : {t : ℕ} (c : In_ok-node-in-Inner t) → IsTaken c.in-Inner.branches.items c.branch_place-place.result c.take_branch-node.result (others c)
out c =
    is_taken c.in-Inner.branches.items _ c.branch_place-place.result c.take_branch-node.result (others c) (subst IsNode c.in-Inner.is c.self.invariant)
    (ap (λ v. v.items) c.in-Inner.branches-is) (here c).bound c.take_branch-node.ensures.branch c.take_branch-node.ensures.others

-- the entry is taken at its branch
changed : {t : ℕ} (c : In_ok-node-in-Inner t)
    → entries_below (take c.branch_place-place.result (others c)) ++ c.in_ok-node-in-Inner.node.entries ++ entries_below (drop c.branch_place-place.result (others c))
    ≡ taken c.args.key (entries_below c.in-Inner.branches.items)
changed c =
    ap (λ es. entries_below (take c.branch_place-place.result (others c)) ++ es ++ entries_below (drop c.branch_place-place.result (others c)))
    c.in_ok-node-in-Inner.ensures.entries
    ∙ sym (rest-change c.args.key (taken c.args.key) (taken_goes c.args.key) c.in-Inner.branches.items (others c)
    c.branch_place-place.result c.take_branch-node.result (subst IsNode c.in-Inner.is c.self.invariant) (here c) (out c).is (out c).others)

pub put_back-requires-clause-in_order : goal.put_back-requires-clause-in_order
put_back-requires-clause-in_order t c =
    let at = (goal.at.put_back-requires-clause-in_order t c).In_ok-node-in-Inner in
    let node = subst IsNode c.in-Inner.is c.self.invariant in
    subst AreInOrder (sym (changed at)) (in_order-taken c.args.key (entries_below c.in-Inner.branches.items) node.in_order)

pub over_branches-requires-clause-in_order : goal.over_branches-requires-clause-in_order
over_branches-requires-clause-in_order t c =
    let at = (goal.at.over_branches-requires-clause-in_order t c).In_ok-node-in-Inner in
    let node = subst IsNode c.in-Inner.is c.self.invariant in
    subst AreInOrder (sym (c.in_ok-put_back-in-Inner.ensures.entries ∙ changed at)) (in_order-taken c.args.key (entries_below c.in-Inner.branches.items) node.in_order)

pub returns-in_ok-put_back-in-Inner-clause-entries : goal.returns-in_ok-put_back-in-Inner-clause-entries
returns-in_ok-put_back-in-Inner-clause-entries t c =
    let at = (goal.at.returns-in_ok-put_back-in-Inner-clause-entries t c).In_ok-node-in-Inner in
    let v = sym c.self.view_is ∙ ap subtree_of c.in-Inner.is in
    c.over_branches.ensures.entries ∙ c.in_ok-put_back-in-Inner.ensures.entries ∙ changed at ∙ ap (λ s. taken c.args.key s.entries) (sym v)

pub invariant_of-result-in-Some : goal.invariant_of-result-in-Some
invariant_of-result-in-Some t c =
    let found = subst (λ o. MatchOption o (taken c.args.key c.as_slice.result.now ≡ c.as_slice.result.now)
    (λ place. (place < length c.as_slice.result.now) × (taken c.args.key c.as_slice.result.now ≡ remove c.as_slice.result.now place))) c.in-Some.is c.key_place.ensures in
    leaf-taken c.args.key c.in-Leaf.entries.items c.as_slice.result.now c.remove.new.self.items c.in-Some.place
    (subst IsNode c.in-Leaf.is c.self.invariant) (c.as_slice.ensures.value ∙ ap (λ v. v.items) c.in-Leaf.entries-is) found.0 found.1
    (c.remove.ensures.items ∙ ap (λ v. remove v.items c.in-Some.place) c.in-Leaf.entries-is)
