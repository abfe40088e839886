use Rattle.std.proofs.Common.{arith}
use Rattle.sf_first_meeting.proofs.TableLaws.{grid-more}
use Rattle.sf_first_meeting.proofs.vertices.lie_on_grid.Goals as goal

pub loop-number-init : goal.loop-number-init
loop-number-init c = λ i h. absurd (omega (arith, h))

pub loop-number-preserved : goal.loop-number-preserved
loop-number-preserved c =
    grid-more c.args.points.now c.loop-number.number c.index-points-number.result c.loop-number-test.true c.loop-number.invariant c.index-points-number.is c.x.ensures.on_grid

pub returns : goal.returns
returns c = λ i h. c.loop-number.invariant i (omega (arith, h, c.loop-number-test.false))
