use Rattle.sf_journal.proofs.FrontLaws.{front-law}
use Rattle.sf_journal.proofs.laws.front_law.Goals as goal

pub returns : goal.returns
returns c = front-law
