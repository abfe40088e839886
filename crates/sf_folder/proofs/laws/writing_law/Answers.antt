use Rattle.sf_folder.proofs.SaveLaws.{writing-law}
use Rattle.sf_folder.proofs.laws.writing_law.Goals as goal

pub returns : goal.returns
returns c = writing-law
