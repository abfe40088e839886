use Rattle.sf_joins.proofs.PlaneLaws.{joins_are_over_the_plane}
use Rattle.sf_joins.proofs.laws.joins_are_over_the_plane.Goals as goal

pub returns : goal.returns
returns c = joins_are_over_the_plane
