use Rattle.sf_known.proofs.KnownLaws.{settled_is_enough}
use Rattle.sf_known.proofs.laws.settled_is_enough.Goals as goal

pub returns : goal.returns
returns c = settled_is_enough
