use Rattle.sf_query.proofs.QueryLaws.{answers_are_over_the_plane}
use Rattle.sf_query.proofs.laws.answers_are_over_the_plane.Goals as goal

pub returns : goal.returns
returns c = answers_are_over_the_plane
