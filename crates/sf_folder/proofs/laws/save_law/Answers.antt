use Rattle.sf_folder.proofs.SaveLaws.{save-law}
use Rattle.sf_folder.proofs.laws.save_law.Goals as goal

pub returns : goal.returns
returns c = save-law
