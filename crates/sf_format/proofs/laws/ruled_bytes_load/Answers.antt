use Rattle.sf_format.proofs.RoundTrip.{ruled-loads}
use Rattle.sf_format.proofs.laws.ruled_bytes_load.Goals as goal

pub returns : goal.returns
returns c = ruled-loads
