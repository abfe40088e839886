-- Internal: who wants to trust the program need not read this file.
-- Each branch of a node has fewer levels than the node.
use Rattle.std.specs.Prelude.{ℕ, ◌+◌, ◌≤◌, max, List, [], ◌∷◌}
use Rattle.std.specs.List.{AllByRecursion}
use Rattle.std.proofs.Common.{arith}
use denote.Param.Weighed.{most, w_this}
use Rattle.sf_rtree.specs.declared.node.Branch.{Branch}
use Rattle.sf_rtree.specs.declared.node.Members.{Members}
use Rattle.sf_rtree.specs.declared.node.Members.TheVariants.{Leaf, Inner}
use Rattle.sf_rtree.specs.declared.node.Node.TheDeep.{deep-Branch, deep-Members}
use Rattle.sf_rtree.specs.Nodes.{IsBranch, IsNode, levels_below, subtree_of}

-- no branch with so many levels has more
pub most_le : (levels : ℕ) (bs : List Branch) → AllByRecursion (IsBranch levels) bs
    → most (w_this.weight Branch deep-Branch) bs ≤ levels + 1
most_le levels [] h = omega arith
most_le levels (b ∷ bs) h = omega (arith, most_le levels bs h.1, h.0.filled.level)

pub levels_fall : (m : Members) → IsNode m → max (deep-Members m) 0 ≤ (subtree_of m).levels
levels_fall (Leaf es) h = omega arith
levels_fall (Inner bs) h = omega (arith, most_le (levels_below bs.items) bs.items h.branches)
