use Rattle.std.proofs.Common.{◌++◌, take, drop, ap, ◌∙◌}
use Rattle.std.specs.List.{remove}
use Rattle.sf_rtree.specs.Nodes.{entries_below}
use Rattle.sf_rtree.proofs.Changes.{put_one}
use Rattle.sf_rtree.proofs.node.put_back.Goals as goal

pub returns-then-len-ge-MEMBERS_MIN-clause-entries : goal.returns-then-len-ge-MEMBERS_MIN-clause-entries
returns-then-len-ge-MEMBERS_MIN-clause-entries c =
    let others = remove c.args.branches.now.items c.args.place in
    ap entries_below c.put_branch.ensures.put ∙ put_one others c.args.place c.into_branch.result
    ∙ ap (λ n. entries_below (take c.args.place others) ++ n.entries ++ entries_below (drop c.args.place others)) c.into_branch.ensures.node
