use Rattle.std.proofs.Common.{◌≡◌, arith, sym, ◌∙◌, ap, true≢false}
use Rattle.sf_geometry.specs.Envelope.{extents_meet}
use Rattle.sf_edge_tree.specs.Boxes.{extent_at_edge}
use Rattle.sf_edge_tree.proofs.SearchLaws.{box-read, none-more}
use Rattle.sf_edge_tree.proofs.search.has_near.Goals as goal
use Rattle.sf_edge_tree.proofs.search.has_near.Goals.{else-meets-via-then-meets+else-test, else-meets-via-else-meets}

pub loop-edge-preserved : goal.loop-edge-preserved
loop-edge-preserved g c =
    let box : c.box_of.result ≡ extent_at_edge c.args.edges.now c.loop-edge.edge =
    box-read c.args.edges.now c.loop-edge.edge c.index-edges-edge.result c.box_of.result (omega (arith, c.requires.within, c.loop-edge-test.true)) c.index-edges-edge.is c.box_of.ensures in
    none-more c.args.edges.now c.args.extent c.args.start c.loop-edge.edge (g.T.EdgeTest.Passes c.args.test.now) c.loop-edge.invariant
    (λ near passes. elim c.else-meets.branch [
      | else-meets-via-then-meets+else-test w ↦ true≢false (sym (w.test.ensures.1 passes) ∙ w.if-test.false)
      | else-meets-via-else-meets w ↦ true≢false (sym near ∙ ap (λ x. extents_meet x c.args.extent) (sym box) ∙ sym c.meets.ensures ∙ w.if-meets.false)
    ])
