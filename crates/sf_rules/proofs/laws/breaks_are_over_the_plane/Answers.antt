use Rattle.sf_rules.proofs.HoldsLaws.{breaks_are_over_the_plane}
use Rattle.sf_rules.proofs.laws.breaks_are_over_the_plane.Goals as goal

pub returns : goal.returns
returns c = breaks_are_over_the_plane
