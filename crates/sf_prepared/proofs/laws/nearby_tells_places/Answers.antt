use Rattle.sf_prepared.proofs.NearbyLaws.{nearby-tells-places as law}
use Rattle.sf_prepared.proofs.laws.nearby_tells_places.Goals as goal

pub returns : goal.returns
returns c = law
