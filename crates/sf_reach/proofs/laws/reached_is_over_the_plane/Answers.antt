use Rattle.sf_reach.proofs.RoundLaws.{reached_is_over_the_plane}
use Rattle.sf_reach.proofs.laws.reached_is_over_the_plane.Goals as goal

pub returns : goal.returns
returns c = reached_is_over_the_plane
