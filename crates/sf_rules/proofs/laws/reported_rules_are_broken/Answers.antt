use Rattle.sf_rules.proofs.HoldsLaws.{reported_rules_are_broken}
use Rattle.sf_rules.proofs.laws.reported_rules_are_broken.Goals as goal

pub returns : goal.returns
returns c = reported_rules_are_broken
