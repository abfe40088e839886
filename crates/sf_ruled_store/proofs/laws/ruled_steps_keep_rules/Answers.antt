use Rattle.sf_ruled_store.proofs.RuledLaws.{ruled_steps_keep_rules}
use Rattle.sf_ruled_store.proofs.laws.ruled_steps_keep_rules.Goals as goal

pub returns : goal.returns
returns c = ruled_steps_keep_rules
