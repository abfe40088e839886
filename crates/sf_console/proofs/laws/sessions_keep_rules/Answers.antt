use Rattle.sf_console.proofs.RuleSessions.{sessions_keep_rules}
use Rattle.sf_console.proofs.laws.sessions_keep_rules.Goals as goal

pub returns : goal.returns
returns c = sessions_keep_rules
