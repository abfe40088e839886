use Rattle.std.proofs.Common.{arith}
use Rattle.sf_edge_tree.proofs.PairLaws.{within-more}
use Rattle.sf_edge_tree.proofs.SearchLaws.{box-read}
use Rattle.sf_edge_tree.proofs.pairs.has_pair_within.Goals as goal

pub loop-first-preserved : goal.loop-first-preserved
loop-first-preserved g c =
    within-more c.args.edges.now c.args.start c.loop-first.first c.args.end c.box_of.result (g.P.PairTest.Passes c.args.test.now)
    (box-read c.args.edges.now c.loop-first.first c.index-edges-first.result c.box_of.result (omega (arith, c.loop-first-test.true, c.requires.within)) c.index-edges-first.is c.box_of.ensures)
    c.loop-first.invariant (λ m. cc (c.has_near.ensures.1 m))
