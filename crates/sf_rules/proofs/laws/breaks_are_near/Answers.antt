use Rattle.sf_rules.proofs.NearLaws.{breaks-near}
use Rattle.sf_rules.proofs.laws.breaks_are_near.Goals as goal

pub returns : goal.returns
returns c = breaks-near
