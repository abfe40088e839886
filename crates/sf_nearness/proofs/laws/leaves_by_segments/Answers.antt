use Rattle.sf_nearness.proofs.SegmentLaws.{leaves_by_segments}
use Rattle.sf_nearness.proofs.laws.leaves_by_segments.Goals as goal

pub returns : goal.returns
returns c = leaves_by_segments
