use Rattle.std.proofs.Common.{arith, subst}
use Rattle.std.specs.List.{remove}
use Rattle.sf_rtree.specs.Curves.{IsLast}
use Rattle.sf_rtree.specs.Nodes.{Covers}
use Rattle.sf_rtree.proofs.Changes.{length-removed, of_one_node, put_one_node, put_two_nodes}
use Rattle.sf_rtree.proofs.node.put_grown.Goals as goal

pub into_branch_within-requires-clause-covered : goal.into_branch_within-requires-clause-covered
into_branch_within-requires-clause-covered c = subst (Covers c.args.extent) (of_one_node c.args.grown c.in-None.is) c.requires.covered

pub into_branch_within-requires-clause-last : goal.into_branch_within-requires-clause-last
into_branch_within-requires-clause-last c = subst (IsLast c.args.last) (of_one_node c.args.grown c.in-None.is) c.requires.last

pub returns-in-None-clause-entries : goal.returns-in-None-clause-entries
returns-in-None-clause-entries c =
    put_one_node (remove c.args.branches.now.items c.args.place) c.put_branch.new.branches.items c.args.place c.into_branch_within.result
    c.args.grown c.put_branch.ensures.put c.into_branch_within.ensures.node c.in-None.is

pub returns-in_ok-put_member-in-Some-clause-entries : goal.returns-in_ok-put_member-in-Some-clause-entries
returns-in_ok-put_member-in-Some-clause-entries c =
    put_two_nodes (remove c.args.branches.now.items c.args.place) c.put_branch-in-Some.new.branches.items c.put_member.new.members.items c.args.place
    c.into_branch.result c.into_branch-in-Some.result c.args.grown c.in-Some.second
    (omega (arith, length-removed c.args.branches.now.items c.args.place c.requires.within, c.requires.within)) c.put_branch-in-Some.ensures.put
    c.into_branch.ensures.node c.in_ok-put_member-in-Some.ensures c.into_branch-in-Some.ensures.node c.in-Some.is
