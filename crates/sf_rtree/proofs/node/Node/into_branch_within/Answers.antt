use Rattle.std.proofs.Common.{refl, subst}
use Rattle.sf_rtree.specs.Nodes.{IsSized}
use Rattle.sf_rtree.proofs.Sizes.{node-sized}
use Rattle.sf_rtree.proofs.node.Node.into_branch_within.Goals as goal

pub returns-clause-branch : goal.returns-clause-branch
returns-clause-branch c =
    let sized = subst IsSized c.self.view_is (node-sized c.self.inside.members c.self.invariant) in
    record {
      filled =
          record {
            level = refl;
            some = sized.some;
            enough = c.requires.members;
            enough_below = sized.enough_below c.requires.members;
            few_below = sized.few_below;
          };
      covered = c.requires.covered;
      last = c.requires.last;
    }
