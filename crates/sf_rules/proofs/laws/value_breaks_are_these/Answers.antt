use Rattle.sf_rules.proofs.HoldsLaws.{value_breaks_are_these}
use Rattle.sf_rules.proofs.laws.value_breaks_are_these.Goals as goal

pub returns : goal.returns
returns c = value_breaks_are_these
