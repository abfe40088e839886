use Rattle.sf_format.proofs.RoundTrip.{canonical-differ}
use Rattle.sf_format.proofs.laws.canonical_bytes_differ.Goals as goal

pub returns : goal.returns
returns c = canonical-differ
