use Rattle.sf_folder.proofs.SaveLaws.{refusal-law}
use Rattle.sf_folder.proofs.laws.refusal_law.Goals as goal

pub returns : goal.returns
returns c = refusal-law
