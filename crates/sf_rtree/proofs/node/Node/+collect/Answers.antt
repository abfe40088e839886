use Rattle.std.proofs.Common.{subst, sym, ap, ◌∙◌}
use Rattle.sf_rtree.specs.Nodes.{IsNode}
use Rattle.sf_rtree.proofs.Meeting.{step-into, step-past}
use Rattle.sf_rtree.proofs.node.Node.+collect.Goals as goal
use Rattle.sf_rtree.proofs.node.Node.+collect.Goals.{then-meets-2+in_ok-collect-in-Inner, else-meets-2}

pub loop-branch-preserved : goal.loop-branch-preserved
loop-branch-preserved t c =
    elim c.if-meets-2.branch [
      | then-meets-2+in_ok-collect-in-Inner w ↦
          step-into c.args.extent.now c.args.out.now.items c.loop-branch.out.items c.if-meets-2.out.items
          c.as_slice-branch-items.result.now c.loop-branch.branch-index c.branch-item.result c.loop-branch-test.true
          c.branch-item.is c.loop-branch.invariant (ap (λ v. v.items) w.out-is ∙ w.in_ok-collect-in-Inner.ensures)
      | else-meets-2 w ↦
          let node = subst IsNode c.in-Inner.is c.self.invariant in
          ap (λ v. v.items) w.out-is
          ∙ step-past c.args.extent.now c.args.out.now.items c.loop-branch.out.items
          c.as_slice-branch-items.result.now c.loop-branch.branch-index c.branch-item.result c.loop-branch-test.true
          c.branch-item.is (rw c.as_slice-branch-items.ensures.value node) c.loop-branch.invariant (sym c.meets-in-loop-branch.ensures ∙ w.if-meets-2.false)
    ]
