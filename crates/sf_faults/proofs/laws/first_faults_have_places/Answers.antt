use Rattle.sf_faults.proofs.FoundLaws.{first-somewhere}
use Rattle.sf_faults.proofs.laws.first_faults_have_places.Goals as goal

pub returns : goal.returns
returns c = first-somewhere
