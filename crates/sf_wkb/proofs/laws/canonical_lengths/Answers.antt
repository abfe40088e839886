use Rattle.sf_wkb.proofs.Lengths.{canonical_lengths}
use Rattle.sf_wkb.proofs.laws.canonical_lengths.Goals as goal

pub returns : goal.returns
returns c = canonical_lengths
