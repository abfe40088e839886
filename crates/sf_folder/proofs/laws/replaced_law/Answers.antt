use Rattle.sf_folder.proofs.SaveLaws.{replaced-law}
use Rattle.sf_folder.proofs.laws.replaced_law.Goals as goal

pub returns : goal.returns
returns c = replaced-law
