use Rattle.sf_prepared.proofs.PlacedLaws.{within_by_point as law}
use Rattle.sf_prepared.proofs.laws.within_by_point.Goals as goal

pub returns : goal.returns
returns c = law
