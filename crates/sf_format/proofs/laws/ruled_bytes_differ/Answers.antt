use Rattle.sf_format.proofs.RoundTrip.{ruled-differ}
use Rattle.sf_format.proofs.laws.ruled_bytes_differ.Goals as goal

pub returns : goal.returns
returns c = ruled-differ
