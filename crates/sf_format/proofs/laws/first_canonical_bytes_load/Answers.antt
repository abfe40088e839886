use Rattle.sf_format.proofs.RoundTrip.{first-canonical-loads}
use Rattle.sf_format.proofs.laws.first_canonical_bytes_load.Goals as goal

pub returns : goal.returns
returns c = first-canonical-loads
