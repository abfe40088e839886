use Rattle.sf_near.proofs.AskedLaws.{asks_are_over_the_plane}
use Rattle.sf_near.proofs.laws.asks_are_over_the_plane.Goals as goal

pub returns : goal.returns
returns c = asks_are_over_the_plane
