use Rattle.std.proofs.Common.{arith}
use Rattle.sf_rtree.proofs.Changes.{back_branches, front_branches, halves}
use Rattle.sf_rtree.proofs.node.split_inner.Goals as goal

pub invariant_of-result-2 : goal.invariant_of-result-2
invariant_of-result-2 c =
    back_branches _ c.args.branches.items c.in_ok-second.second.items c.in_ok-second.ensures.second (omega arith) (omega arith)
    c.requires.branches c.requires.in_order

pub invariant_of-result-3 : goal.invariant_of-result-3
invariant_of-result-3 c =
    front_branches _ c.args.branches.items c.take_half.new.members.items c.in_ok-second.ensures.first (omega arith) (omega arith) (omega arith)
    c.requires.branches c.requires.in_order

pub returns : goal.returns
returns c =
    halves _ c.args.branches.items c.take_half.new.members.items c.in_ok-second.second.items c.in_ok-second.ensures.first c.in_ok-second.ensures.second
    (omega arith) (omega arith) c.requires.branches
