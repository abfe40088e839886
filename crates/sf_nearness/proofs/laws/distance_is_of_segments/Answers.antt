use Rattle.sf_nearness.proofs.NearLaws.{distance_is_of_segments}
use Rattle.sf_nearness.proofs.laws.distance_is_of_segments.Goals as goal

pub returns : goal.returns
returns c = distance_is_of_segments
