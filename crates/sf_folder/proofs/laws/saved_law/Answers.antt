use Rattle.sf_folder.proofs.SaveLaws.{saved-law}
use Rattle.sf_folder.proofs.laws.saved_law.Goals as goal

pub returns : goal.returns
returns c = saved-law
