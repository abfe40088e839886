use Rattle.sf_keeping.proofs.KeptLaws.{recovery-law}
use Rattle.sf_keeping.proofs.laws.recovery_law.Goals as goal

pub returns : goal.returns
returns c = recovery-law
