use Rattle.sf_console.proofs.RuleSessions.{fresh_machines_keep_rules}
use Rattle.sf_console.proofs.laws.fresh_machines_keep_rules.Goals as goal

pub returns : goal.returns
returns c = fresh_machines_keep_rules
