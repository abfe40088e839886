use Rattle.sf_near.proofs.FeatureLaws.{within_is_over_the_plane}
use Rattle.sf_near.proofs.laws.within_is_over_the_plane.Goals as goal

pub returns : goal.returns
returns c = within_is_over_the_plane
