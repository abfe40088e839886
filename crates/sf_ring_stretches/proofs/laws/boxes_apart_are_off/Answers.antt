use Rattle.sf_ring_stretches.proofs.PointLaws.{boxes_apart_are_off}
use Rattle.sf_ring_stretches.proofs.laws.boxes_apart_are_off.Goals as goal

pub returns : goal.returns
returns c = boxes_apart_are_off
