use Rattle.sf_edge_tree.proofs.NodeLaws.{pushed-over, read-over}
use Rattle.sf_edge_tree.proofs.nodes.push_over.Goals as goal

pub loop-preserved : goal.loop-preserved
loop-preserved c =
    λ edges tree.
    let before = c.loop.invariant edges tree in
    pushed-over edges c.loop.nodes.items c.push.new.self.items c.in-Some.node c.in_ok-push.ensures.items before.0 before.1
    (read-over edges c.loop.nodes.items c.as_slice.result.now c.in-Some.node c.as_slice.ensures.value c.in-Some.ensures before.0)
