use Rattle.sf_nearness.proofs.NearLaws.{nearness_is_of_segments}
use Rattle.sf_nearness.proofs.laws.nearness_is_of_segments.Goals as goal

pub returns : goal.returns
returns c = nearness_is_of_segments
