use Rattle.sf_history.proofs.KeptRules.{turns_keep_rules}
use Rattle.sf_history.proofs.laws.turns_keep_rules.Goals as goal

pub returns : goal.returns
returns c = turns_keep_rules
