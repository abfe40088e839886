use Rattle.std.proofs.lemmas.Bool.{eqb-true}
use Rattle.sf_first_meeting.proofs.PairLaws.{closed-back, closed-read}
use Rattle.sf_first_meeting.proofs.apart.closes_ring.Goals as goal

pub returns-then-edge-points : goal.returns-then-edge-points
returns-then-edge-points c = (
  λ h. (c.if-edge-points.true, closed-read c.args.points.now c.args.edge _ _ _ c.requires c.index-points-0.is c.index-points-edge.is c.eq.ensures h),
  λ w. closed-back c.args.points.now c.args.edge _ _ _ c.requires c.index-points-0.is c.index-points-edge.is c.eq.ensures w.1,
)

pub returns-else-edge-points : goal.returns-else-edge-points
returns-else-edge-points c = (λ h. absurd (c.if-edge-points.false (eqb-true _ _ h)), λ w. absurd (c.if-edge-points.false w.0))
