use Rattle.sf_near.proofs.AroundLaws.{nearest_is_over_the_plane}
use Rattle.sf_near.proofs.laws.nearest_is_over_the_plane.Goals as goal

pub returns : goal.returns
returns c = nearest_is_over_the_plane
