use Rattle.sf_folder.proofs.RenewLaws.{renew-law}
use Rattle.sf_folder.proofs.laws.renew_law.Goals as goal

pub returns : goal.returns
returns c = renew-law
