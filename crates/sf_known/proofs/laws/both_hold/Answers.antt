use Rattle.sf_known.proofs.KnownLaws.{both_hold}
use Rattle.sf_known.proofs.laws.both_hold.Goals as goal

pub returns : goal.returns
returns c = both_hold
