use Rattle.sf_format.proofs.RoundTrip.{second-canonical-loads}
use Rattle.sf_format.proofs.laws.second_canonical_bytes_load.Goals as goal

pub returns : goal.returns
returns c = second-canonical-loads
