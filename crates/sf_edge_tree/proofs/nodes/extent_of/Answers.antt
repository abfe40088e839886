use Rattle.std.proofs.Common.{arith}
use Rattle.sf_edge_tree.proofs.NodeLaws.{cover-first, cover-more}
use Rattle.sf_edge_tree.proofs.SearchLaws.{box-read}
use Rattle.sf_edge_tree.proofs.nodes.extent_of.Goals as goal

pub loop-edge-init : goal.loop-edge-init
loop-edge-init c =
    cover-first c.args.edges.now c.args.start c.box_of-extent.result
    (box-read c.args.edges.now c.args.start c.index-edges-start.result c.box_of-extent.result (omega (arith, c.requires.some, c.requires.within)) c.index-edges-start.is c.box_of-extent.ensures)

pub loop-edge-preserved : goal.loop-edge-preserved
loop-edge-preserved c =
    cover-more c.args.edges.now c.args.start c.loop-edge.edge c.loop-edge.extent c.box_of.result c.joined-extent.result c.loop-edge.invariant
    (box-read c.args.edges.now c.loop-edge.edge c.index-edges-edge.result c.box_of.result (omega (arith, c.loop-edge-test.true, c.requires.within)) c.index-edges-edge.is c.box_of.ensures)
    c.joined-extent.ensures
