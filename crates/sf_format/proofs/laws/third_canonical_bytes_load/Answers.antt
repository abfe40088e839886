use Rattle.sf_format.proofs.RoundTrip.{third-canonical-loads}
use Rattle.sf_format.proofs.laws.third_canonical_bytes_load.Goals as goal

pub returns : goal.returns
returns c = third-canonical-loads
