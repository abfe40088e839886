use Rattle.sf_session.proofs.OpenedLaws.{opening-law}
use Rattle.sf_session.proofs.laws.opening_law.Goals as goal

pub returns : goal.returns
returns c = opening-law
