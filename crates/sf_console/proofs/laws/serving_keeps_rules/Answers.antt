use Rattle.sf_console.proofs.RuleSessions.{serving_keeps_rules}
use Rattle.sf_console.proofs.laws.serving_keeps_rules.Goals as goal

pub returns : goal.returns
returns c = serving_keeps_rules
