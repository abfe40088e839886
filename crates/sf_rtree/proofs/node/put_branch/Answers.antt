use Rattle.sf_rtree.proofs.Changes.{set-inserted}
use Rattle.sf_rtree.proofs.node.put_branch.Goals as goal

pub returns-clause-put : goal.returns-clause-put
returns-clause-put c = set-inserted c.args.branches.now.items c.args.place c.args.branch c.requires.within
