use Rattle.sf_wkb.proofs.Lengths.{canonical_bytes_are_few}
use Rattle.sf_wkb.proofs.laws.canonical_bytes_are_few.Goals as goal

pub returns : goal.returns
returns c = canonical_bytes_are_few
