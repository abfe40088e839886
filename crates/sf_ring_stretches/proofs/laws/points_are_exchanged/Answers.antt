use Rattle.sf_ring_stretches.proofs.PointLaws.{points_are_exchanged}
use Rattle.sf_ring_stretches.proofs.laws.points_are_exchanged.Goals as goal

pub returns : goal.returns
returns c = points_are_exchanged
