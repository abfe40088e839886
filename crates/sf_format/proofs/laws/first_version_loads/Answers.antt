use Rattle.sf_format.proofs.First.{first-version-loads}
use Rattle.sf_format.proofs.laws.first_version_loads.Goals as goal

pub returns : goal.returns
returns c = first-version-loads
