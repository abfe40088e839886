use Rattle.sf_session.proofs.CrashLaws.{keeping-law}
use Rattle.sf_session.proofs.laws.keeping_law.Goals as goal

pub returns : goal.returns
returns c = keeping-law
