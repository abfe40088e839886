use Rattle.sf_ring_stretches.proofs.KeptLaws.{polygons_are_kept}
use Rattle.sf_ring_stretches.proofs.laws.polygons_are_kept.Goals as goal

pub returns : goal.returns
returns c = polygons_are_kept
