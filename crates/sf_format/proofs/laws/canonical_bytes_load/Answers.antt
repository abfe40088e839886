use Rattle.sf_format.proofs.RoundTrip.{canonical-loads}
use Rattle.sf_format.proofs.laws.canonical_bytes_load.Goals as goal

pub returns : goal.returns
returns c = canonical-loads
