use Rattle.sf_prepared.proofs.NearbyLaws.{leaving-reaches-beyond as law}
use Rattle.sf_prepared.proofs.laws.leaving_reaches_beyond.Goals as goal

pub returns : goal.returns
returns c = law
