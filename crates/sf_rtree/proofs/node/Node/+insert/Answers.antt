use Rattle.std.proofs.Common.{◌≡◌, ◌++◌, ◌+◌, length, take, drop, arith, ap, ◌∙◌, sym, subst, if◌then◌else◌}
use Rattle.std.specs.Prelude.{ℕ, List}
use Rattle.std.specs.List.{AllByRecursion, insert, remove}
use Rattle.sf_rtree.specs.declared.node.Branch.{Branch}
use Rattle.sf_rtree.specs.Boxed.{joined}
use Rattle.sf_rtree.specs.Curves.{AreInOrder, IsLast, comes_before, key_of, put}
use Rattle.sf_rtree.specs.Nodes.{Covers, IsBranch, IsNode, IsPlace, entries_below, levels_below, subtree_of}
use Rattle.sf_rtree.proofs.Boxes.{cover-put}
use Rattle.sf_rtree.proofs.Order.{in_order-put, put_goes}
use Rattle.sf_rtree.proofs.Changes.{IsTaken, grown-level, grown-weaker, is_taken, leaf-put, rest-change}
use Rattle.sf_rtree.proofs.Sizes.{last-put, levels_all}
use Rattle.sf_rtree.proofs.node.Node.+insert.Goals as goal
use Rattle.sf_rtree.proofs.node.Node.+insert.Goals.{In_ok-grown-in-Inner}

pub split_leaf-requires-clause-in_order : goal.split_leaf-requires-clause-in_order
split_leaf-requires-clause-in_order t c =
    leaf-put c.args.entry c.in-Leaf.entries.items c.as_slice.result.now c.put_member.new.members.items c.entry_place-place.result
    (subst IsNode c.in-Leaf.is c.self.invariant) (c.as_slice.ensures.value ∙ ap (λ v. v.items) c.in-Leaf.entries-is) c.entry_place-place.ensures.put (c.in_ok-put_member-in-Leaf.ensures ∙ ap (λ v. insert v.items c.entry_place-place.result c.args.entry) c.in-Leaf.entries-is)

-- the branches without the one that was taken
abbrev others : {t : ℕ} → In_ok-grown-in-Inner t → List Branch
others c = remove c.take_branch-branch.new.branches.items c.branch_place-place.result

here : {t : ℕ} (c : In_ok-grown-in-Inner t) → IsPlace (key_of c.args.entry) c.in-Inner.branches.items c.branch_place-place.result
here c =
    subst (λ bs. IsPlace (key_of c.args.entry) bs c.branch_place-place.result) (c.as_slice-in-Inner.ensures.value ∙ ap (λ v. v.items) c.in-Inner.branches-is)
    (subst (λ k. IsPlace k c.as_slice-in-Inner.result.now c.branch_place-place.result) c.key.ensures c.branch_place-place.ensures)

taken : {t : ℕ} (c : In_ok-grown-in-Inner t) → IsTaken c.in-Inner.branches.items c.branch_place-place.result c.take_branch-branch.result (others c)
taken c =
    is_taken c.in-Inner.branches.items _ c.branch_place-place.result c.take_branch-branch.result (others c) (subst IsNode c.in-Inner.is c.self.invariant)
    (ap (λ v. v.items) c.in-Inner.branches-is) (here c).bound c.take_branch-branch.ensures.branch c.take_branch-branch.ensures.others

pub put_grown-requires-clause-covered : goal.put_grown-requires-clause-covered
put_grown-requires-clause-covered t c =
    let at = (goal.at.put_grown-requires-clause-covered t c).In_ok-grown-in-Inner in
    let branch = c.take_branch-branch.result in
    subst (Covers c.join-extent.result) (sym c.in_ok-grown-in-Inner.ensures.entries)
    (subst (λ x. Covers x (put c.args.entry branch.node.entries)) (sym (c.join-extent.ensures ∙ ap (joined branch.extent) c.extent.ensures))
    (cover-put branch.extent c.args.entry branch.node.entries (taken at).branch.covered))

pub put_grown-requires-clause-last : goal.put_grown-requires-clause-last
put_grown-requires-clause-last t c =
    let at = (goal.at.put_grown-requires-clause-last t c).In_ok-grown-in-Inner in
    let branch = c.take_branch-branch.result in
    subst (IsLast c.later-last.result) (sym c.in_ok-grown-in-Inner.ensures.entries)
    (subst (λ k. IsLast k (put c.args.entry branch.node.entries))
    (sym (c.later-last.ensures ∙ ap (λ k. if comes_before branch.last k then k else branch.last) c.key-in-Inner.ensures))
    (last-put branch.last c.args.entry branch.node.entries (taken at).in_order (taken at).branch.last))

-- what came of the branch has its levels
levels : {t : ℕ} (c : In_ok-grown-in-Inner t) → c.in_ok-grown-in-Inner.grown.node.levels ≡ levels_below c.in-Inner.branches.items
levels c =
    grown-level c.take_branch-branch.result.node.levels c.take_branch-branch.result.node.members c.in_ok-grown-in-Inner.grown c.in_ok-grown-in-Inner.ensures.filled
    ∙ (taken c).branch.filled.level

pub put_grown-requires-clause-branches : goal.put_grown-requires-clause-branches
put_grown-requires-clause-branches t c =
    let at = (goal.at.put_grown-requires-clause-branches t c).In_ok-grown-in-Inner in
    subst (λ l. AllByRecursion (IsBranch l) (others at)) (sym (levels at)) (taken at).rest_are

-- the entry is put at its branch
changed : {t : ℕ} (c : In_ok-grown-in-Inner t) → put c.args.entry (entries_below c.in-Inner.branches.items)
    ≡ entries_below (take c.branch_place-place.result (others c)) ++ put c.args.entry c.take_branch-branch.result.node.entries ++ entries_below (drop c.branch_place-place.result (others c))
changed c =
    rest-change (key_of c.args.entry) (put c.args.entry) (put_goes c.args.entry) c.in-Inner.branches.items (others c)
    c.branch_place-place.result c.take_branch-branch.result (subst IsNode c.in-Inner.is c.self.invariant) (here c) (taken c).is (taken c).others

pub split_inner-requires-clause-in_order : goal.split_inner-requires-clause-in_order
split_inner-requires-clause-in_order t c =
    let at = (goal.at.split_inner-requires-clause-in_order t c).In_ok-grown-in-Inner in
    let node = subst IsNode c.in-Inner.is c.self.invariant in
    let f = c.in_ok-put_grown-in-Inner.ensures.entries
    ∙ ap (λ es. entries_below (take c.branch_place-place.result (others at)) ++ es ++ entries_below (drop c.branch_place-place.result (others at)))
    c.in_ok-grown-in-Inner.ensures.entries in
    subst AreInOrder (sym (f ∙ sym (changed at))) (in_order-put c.args.entry (entries_below c.in-Inner.branches.items) node.in_order)

pub returns-in_ok-put_grown-in-Inner : goal.returns-in_ok-put_grown-in-Inner
returns-in_ok-put_grown-in-Inner t c =
    let at = (goal.at.returns-in_ok-put_grown-in-Inner t c).In_ok-grown-in-Inner in
    let v = sym c.self.view_is ∙ ap subtree_of c.in-Inner.is in
    let f = c.in_ok-put_grown-in-Inner.ensures.entries
    ∙ ap (λ es. entries_below (take c.branch_place-place.result (others at)) ++ es ++ entries_below (drop c.branch_place-place.result (others at)))
    c.in_ok-grown-in-Inner.ensures.entries in
    let m : length c.take_branch-branch.new.branches.items ≡ length c.in-Inner.branches.items = c.take_branch-branch.ensures.length ∙ ap (λ v. length v.items) c.in-Inner.branches-is in
    let l : levels_below c.put_grown.new.branches.items ≡ levels_below c.in-Inner.branches.items =
    levels_all c.in_ok-grown-in-Inner.grown.node.levels c.put_grown.new.branches.items c.in_ok-put_grown-in-Inner.ensures.branches (omega (arith, c.in_ok-put_grown-in-Inner.ensures.members, m, (here at).bound))
    ∙ levels at in
    grown-weaker _ _ _ _ _ _ c.split_inner.result (ap (λ k. k + 1) l ∙ sym (ap (λ s. s.levels) v))
    (omega (arith, ap (λ s. s.members) v, c.in_ok-put_grown-in-Inner.ensures.members, m)) (f ∙ sym (changed at) ∙ ap (put c.args.entry) (sym (ap (λ s. s.entries) v))) c.split_inner.ensures
