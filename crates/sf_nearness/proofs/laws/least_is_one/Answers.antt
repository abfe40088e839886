use Rattle.sf_nearness.proofs.PairLaws.{least_is_one}
use Rattle.sf_nearness.proofs.laws.least_is_one.Goals as goal

pub returns : goal.returns
returns c = least_is_one
