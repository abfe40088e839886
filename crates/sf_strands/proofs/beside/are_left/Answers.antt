use Rattle.std.proofs.Common.{arith}
use Rattle.sf_strands.specs.Beside.{is_left}
use Rattle.sf_strands.proofs.NearLaws.{side-more}
use Rattle.sf_strands.proofs.beside.are_left.Goals as goal

pub loop-number-preserved : goal.loop-number-preserved
loop-number-preserved c =
    side-more is_left c.args.points.now c.args.edge c.args.start c.loop-number.number c.index-points-edge.result c.index-points-edge-in-loop-number.result c.index-points-number.result c.is_left.result c.requires.edge_in
    (omega (arith, c.loop-number-test.true, c.requires.end_in)) c.index-points-edge.is c.index-points-edge-in-loop-number.is c.index-points-number.is c.is_left.ensures c.if-not-is_left.false c.loop-number.invariant
