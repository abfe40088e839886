use Rattle.sf_joins.proofs.PlaneLaws.{beside_is_over_the_plane}
use Rattle.sf_joins.proofs.laws.beside_is_over_the_plane.Goals as goal

pub returns : goal.returns
returns c = beside_is_over_the_plane
