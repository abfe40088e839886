use Rattle.sf_rtree.proofs.Changes.{put_one_node, put_two_nodes}
use Rattle.sf_rtree.proofs.node.put_nodes.Goals as goal

pub returns-in-None-clause-entries : goal.returns-in-None-clause-entries
returns-in-None-clause-entries c =
    put_one_node c.args.branches.now.items c.insert.new.self.items c.args.place c.into_branch.result c.args.grown
    c.in_ok-insert.ensures.items c.into_branch.ensures.node c.in-None.is

pub returns-in_ok-insert-in-Some-clause-entries : goal.returns-in_ok-insert-in-Some-clause-entries
returns-in_ok-insert-in-Some-clause-entries c =
    put_two_nodes c.args.branches.now.items c.insert.new.self.items c.insert-in-Some.new.self.items c.args.place c.into_branch.result
    c.into_branch-in-Some.result c.args.grown c.in-Some.second c.requires.within c.in_ok-insert.ensures.items c.into_branch.ensures.node
    c.in_ok-insert-in-Some.ensures.items c.into_branch-in-Some.ensures.node c.in-Some.is
