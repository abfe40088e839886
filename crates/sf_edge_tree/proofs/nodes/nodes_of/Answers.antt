use Rattle.std.proofs.Common.{◌∙◌, arith}
use Rattle.sf_edge_tree.proofs.NodeLaws.{pushed-run}
use Rattle.sf_edge_tree.proofs.nodes.nodes_of.Goals as goal

pub loop-start-preserved : goal.loop-start-preserved
loop-start-preserved c =
    let pushed =
    pushed-run c.args.edges.now c.loop-start.nodes.items c.push.new.self.items c.run_of-run.result c.loop-start.start c.len.result c.in_ok-push.ensures.items (omega (arith, c.len.ensures)) c.loop-start.invariant.0
    c.loop-start.invariant.1 c.run_of-run.ensures
    in
    (c.in_ok-push_over.ensures.tree c.args.edges.now pushed.0, c.in_ok-push_over.ensures.end c.args.edges.now pushed.0 ∙ pushed.1, c.run_of-run.ensures.end_in)
