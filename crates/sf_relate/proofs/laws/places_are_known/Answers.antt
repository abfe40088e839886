use Rattle.sf_relate.proofs.PointLaws.{places_are_known}
use Rattle.sf_relate.proofs.laws.places_are_known.Goals as goal

pub returns : goal.returns
returns c = places_are_known
