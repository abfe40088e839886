use Rattle.sf_first_meeting.proofs.SpotLaws.{known-from, known-to, known-two}
use Rattle.sf_first_meeting.proofs.spot.spot_at.Goals as goal

pub spot_of_two-requires-clause-edges : goal.spot_of_two-requires-clause-edges
spot_of_two-requires-clause-edges c = known-two c.args.points.now c.args.vertex _ _ c.in-Some.ensures c.in-Some-edge_from.ensures

pub spot_of_one-requires-clause-edges : goal.spot_of_one-requires-clause-edges
spot_of_one-requires-clause-edges c = known-from c.args.points.now c.args.vertex _ c.in_default.ensures c.in_ok-after.ensures

pub spot_of_one-requires-in_default-edge_from-clause-edges : goal.spot_of_one-requires-in_default-edge_from-clause-edges
spot_of_one-requires-in_default-edge_from-clause-edges c = known-to c.args.points.now c.args.vertex _ c.in-Some.ensures c.in_default-edge_from.ensures
