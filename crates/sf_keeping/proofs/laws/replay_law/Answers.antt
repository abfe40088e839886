use Rattle.sf_keeping.proofs.ReplayedLaws.{replay-law}
use Rattle.sf_keeping.proofs.laws.replay_law.Goals as goal

pub returns : goal.returns
returns c = replay-law
