use Rattle.sf_valid_rules.proofs.VerdictLaws.{verdict-one}
use Rattle.sf_valid_rules.proofs.laws.verdict_is_one.Goals as goal

pub returns : goal.returns
returns c = verdict-one
