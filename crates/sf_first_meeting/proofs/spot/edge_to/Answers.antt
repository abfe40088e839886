use Rattle.std.proofs.Common.{arith}
use Rattle.sf_first_meeting.proofs.SpotLaws.{to-before, to-few, to-last, to-none}
use Rattle.sf_first_meeting.proofs.spot.edge_to.Goals as goal

pub returns-then-vertex-gt0 : goal.returns-then-vertex-gt0
returns-then-vertex-gt0 c = to-before c.args.points.now c.args.vertex _ c.if-vertex-gt0.true c.requires (omega arith)

pub returns-then-points-lt2 : goal.returns-then-points-lt2
returns-then-points-lt2 c = to-few c.args.points.now c.args.vertex (omega arith)

pub returns-then-closes_ring : goal.returns-then-closes_ring
returns-then-closes_ring c = to-last c.args.points.now c.args.vertex _ (omega arith) (c.closes_ring.ensures.0 c.if-closes_ring.true)

pub returns-else-closes_ring : goal.returns-else-closes_ring
returns-else-closes_ring c = to-none c.args.points.now c.args.vertex _ (omega arith) (omega arith) (λ h. cc (c.closes_ring.ensures.1 h))
